-- `rows_in_table` meets its contract: the table that was found is the only one of its id.
use mathlib.Core.Path.{sym, ap, ◌∙◌}
use Rattle.lists.proofs.Comparisons.{is_at_most}
use Rattle.lists.proofs.Places.{found_tells}
use Rattle.lists.proofs.Runs.{record_fits}
use Rattle.layout.specs.Fields.{table_size}
use Rattle.soundness_deletes.proofs.RowRanges.{rows_found, rows_nowhere}
use Rattle.soundness_deletes.proofs.rows.rows_in_table.Goals as goal

pub table_next_row_id-next-requires : goal.table_next_row_id-next-requires
table_next_row_id-next-requires c =
    record_fits table_size (found_tells _ _ _ c.find_table_near-found.ensures c.in-Some.is).0 c.requires.0.lent

pub returns-in-Some : goal.returns-in-Some
returns-in-Some c names =
    c.le.ensures ∙ (is_at_most c.row_id_end-end.result.0 c.table_next_row_id-next.result.0
    ∙ rows_found _ names _ _ c.find_table_near-found.ensures c.requires.0 c.in-Some.is c.row_id_end-end.ensures (ap (λ x. x.0) c.table_next_row_id-next.ensures))

pub returns-in-None : goal.returns-in-None
returns-in-None c names = sym (rows_nowhere _ names _ _ c.find_table_near-found.ensures c.in-None.is)
