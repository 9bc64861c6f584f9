-- `numbers_fit` meets its contract: the next snapshot is judged, and the table's next row number with so many rows.
use mathlib.Core.Path.{ap, ap₂, ◌∙◌}
use mathlib.Core.Bool.{◌&&◌}
use Prim.Native.Nat.{◌+◌}
use Rattle.ducklake.specs.Soundness.{in_limit, snapshot_in_range}
use Rattle.row_insertion.proofs.refuse.numbers_fit.Goals as goal

pub returns : goal.returns
returns c names =
    ap₂ ◌&&◌ (c.snapshot_fits-fits.ensures ∙ ap snapshot_in_range c.next_snapshot-next.ensures)
    (c.rows_fit-rows.ensures ∙ ap (λ n. in_limit (n + c.args.record_count)) (c.next_row_id-first.ensures names))
