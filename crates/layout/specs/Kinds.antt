-- The kinds of change that a snapshot records, by their numbers.
use Rattle.std.specs.Prelude.{ℕ, cond, eqb, None, Option, Some}
use Rattle.layout.specs.declared.kind.ChangeKind.{ChangeKind}
use Rattle.layout.specs.declared.kind.ChangeKind.TheVariants.{CreatedSchema, CreatedTable, InsertedIntoTable, DeletedFromTable, DroppedSchema, DroppedTable}

-- "Kinds: 1 created_schema, 2 created_table, 3 inserted_into_table, 4 deleted_from_table, 6 dropped_schema, 7 dropped_table"
abbrev pub kind_number : ChangeKind → ℕ
kind_number CreatedSchema = 1
kind_number CreatedTable = 2
kind_number InsertedIntoTable = 3
kind_number DeletedFromTable = 4
kind_number DroppedSchema = 6
kind_number DroppedTable = 7

-- the kind of a number, if it is one's
unfoldable pub kind_of : ℕ → Option ChangeKind
kind_of number =
    cond (eqb number 1) (Some CreatedSchema)
    (cond (eqb number 2) (Some CreatedTable)
    (cond (eqb number 3) (Some InsertedIntoTable)
    (cond (eqb number 4) (Some DeletedFromTable)
    (cond (eqb number 6) (Some DroppedSchema)
    (cond (eqb number 7) (Some DroppedTable) None)))))
