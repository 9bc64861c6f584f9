-- The kinds of change that a snapshot records.
use Rattle.std.specs.Prelude.{ℕ, Bool, [], ◌∷◌}
use Rattle.lists.specs.Lists.{has}

-- "Kinds: 1 created_schema, 2 created_table, 3 inserted_into_table, 4 deleted_from_table, 6 dropped_schema, 7 dropped_table"
abbrev pub created_schema : ℕ
created_schema = 1

abbrev pub created_table : ℕ
created_table = 2

abbrev pub inserted_into_table : ℕ
inserted_into_table = 3

abbrev pub deleted_from_table : ℕ
deleted_from_table = 4

abbrev pub dropped_schema : ℕ
dropped_schema = 6

abbrev pub dropped_table : ℕ
dropped_table = 7

-- "change kinds are those below"
unfoldable pub is_kind : ℕ → Bool
is_kind kind = has kind (created_schema ∷ created_table ∷ inserted_into_table ∷ deleted_from_table ∷ dropped_schema ∷ dropped_table ∷ [])

-- "schema_version rises by one for kinds 1, 2, 6, 7 only."
unfoldable pub raises_schema_version : ℕ → Bool
raises_schema_version kind = has kind (created_schema ∷ created_table ∷ dropped_schema ∷ dropped_table ∷ [])
