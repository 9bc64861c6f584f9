-- The tests by which listings select tables, as the definitions of what a snapshot shows have them.
use Rattle.std.specs.Prelude.{ℕ, ◌*◌, ◌≤◌, Bool, ◌&&◌, List, eqb, length, Option}
use Rattle.lists.specs.Lists.{place}
use Rattle.layout.specs.Catalog.{Versioned, Table}
use Rattle.layout.specs.Fields.{table_size}
use Rattle.layout.specs.Names.{name_size, padded, same_name}
use Rattle.ducklake.specs.Liveness.{live}

-- a table of the schema, live at s
abbrev pub in_schema : ℕ → ℕ → Versioned Table → Bool
in_schema schema s t = eqb t.body.schema schema && live s t

-- of that name, too
abbrev pub is_named : ℕ → ℕ → List ℕ → Versioned Table → Bool
is_named schema s name t = same_name t.body.name (padded name) && in_schema schema s t

-- the place of the first one
unfoldable pub place_of_named : List (Versioned Table) → ℕ → ℕ → List ℕ → Option ℕ
place_of_named ts s schema name = place (is_named schema s name) 0 ts

-- n tables, and a name place for each
pub record TablesWithNames (run names : List ℕ) (n : ℕ) : Type 0 where
  pub tables : table_size * n ≤ length run
  pub places : name_size * n ≤ length names
