-- `grow_table` meets its contract: ids ascend, so setting one word of the table that is found is what the definition does to them all.
use mathlib.Core.Path.{ap, ◌∙◌}
use native.Mathlib.Omega.{arith}
use Rattle.row_insertion.proofs.Grown.{first-is, found_below, found_room, grown_there, grown_nowhere}
use Rattle.row_insertion.proofs.rows.grow_table.Goals as goal

pub table_next_row_id-first-requires : goal.table_next_row_id-first-requires
table_next_row_id-first-requires c =
    found_room _ _ _ c.requires.by_id c.find_table-found.ensures c.in-Some.is

pub overflow_add-first : goal.overflow_add-first
overflow_add-first c =
    omega (
      arith,
      ap (λ r. r.0) c.table_next_row_id-first.ensures,
      c.requires.few,
      c.requires.in_limit _ (found_below _ _ _ c.requires.by_id c.find_table-found.ensures c.in-Some.is),
    )

pub set_field-requires : goal.set_field-requires
set_field-requires c =
    (found_room _ _ _ c.requires.by_id c.find_table-found.ensures c.in-Some.is, omega arith)

pub returns-in-Some : goal.returns-in-Some
returns-in-Some c =
    let e = ap (λ r. r.0) c.table_next_row_id-first.ensures in
    record {
      tables = grown_there _ _ _ c.requires.by_id c.find_table-found.ensures _ c.in-Some.is e c.set_field.ensures;
      first = λ names. e ∙ first-is _ _ _ c.find_table-found.ensures c.in-Some.is names;
    }

pub returns : goal.returns
returns c =
    record {
      tables = grown_nowhere _ _ _ c.requires.by_id c.find_table-found.ensures _ c.in_default.is;
      first = λ names. first-is _ _ _ c.find_table-found.ensures c.in_default.is names;
    }
