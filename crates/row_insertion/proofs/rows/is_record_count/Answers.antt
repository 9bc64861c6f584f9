-- `is_record_count` meets its contract: it is the definition.
use mathlib.Core.Path.{refl}
use Rattle.ducklake.specs.Soundness.{is_record_count}
use Rattle.row_insertion.proofs.rows.is_record_count.Goals as goal

pub returns : goal.returns
unfolding is_record_count
returns c = refl
