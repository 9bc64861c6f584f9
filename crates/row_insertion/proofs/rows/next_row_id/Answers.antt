-- `next_row_id` meets its contract: ids ascend, so the table that is found is the one of its id.
use mathlib.Core.Path.{ap, ◌∙◌}
use Rattle.row_insertion.proofs.Grown.{found_room, first-is}
use Rattle.row_insertion.proofs.rows.next_row_id.Goals as goal

pub table_next_row_id-requires : goal.table_next_row_id-requires
table_next_row_id-requires c =
    found_room _ _ _ c.requires c.find_table-found.ensures c.in-Some.is

pub returns-in-Some : goal.returns-in-Some
returns-in-Some c names =
    ap (λ r. r.0) c.table_next_row_id.ensures ∙ first-is _ _ _ c.find_table-found.ensures c.in-Some.is names

pub returns : goal.returns
returns c names =
    first-is _ _ _ c.find_table-found.ensures c.in_default.is names
