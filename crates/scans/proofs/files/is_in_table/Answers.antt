-- The test is that of the definition: of a data file the table and the life are looked at.
use mathlib.Core.Path.{ap, ap₂, ◌∙◌}
use mathlib.Core.Bool.{◌&&◌}
use lib.Dec.{eqb}
use Rattle.lists.specs.Runs.{field}
use Rattle.ducklake.specs.Liveness.{live}
use Rattle.lookup.specs.Versions.{with_life}
use Rattle.scans.proofs.files.is_in_table.Goals as goal

pub returns : goal.returns
unfolding field live
returns c =
    let a = c.args in
    ap₂ ◌&&◌ (c.eq.ensures ∙ ap (λ t. eqb t.0 a.table.0) c.data_file_table-holder.ensures) (c.is_live-live.ensures ∙ ap (λ l. live a.s.0 (with_life l)) c.life_at-l.ensures)
