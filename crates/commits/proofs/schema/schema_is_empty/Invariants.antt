-- `schema_is_empty` meets its contract: the loop goes on while no table is live in the schema.
use Prim.Native.Nat.{ℕ}
use mathlib.Core.Path.{◌≡◌}
use mathlib.Core.Bool.{Bool, not, ◌&&◌}
use mathlib.Core.List.{List}
use lib.Dec.{eqb}
use Rattle.lists.specs.Lists.{all, non_empty}
use Rattle.lists.specs.Runs.{from}
use Rattle.layout.specs.Catalog.{Versioned, Table}
use Rattle.layout.specs.Words.{table_at, tables_in}
use Rattle.ducklake.specs.Liveness.{live, tables_at}
use Rattle.commits.proofs.schema.schema_is_empty.Given as goal

abbrev pub elsewhere : ℕ → ℕ → Versioned Table → Bool
elsewhere schema s t = not (eqb t.body.schema schema && live s t)

abbrev pub invariant-loop-i : goal.invariant-loop-i
invariant-loop-i l =
    (names : List ℕ) → not (non_empty (tables_at (tables_in l.tables names l.n) l.s.0 l.schema.0)) ≡ all (elsewhere l.schema.0 l.s.0) (from (table_at l.tables names) l.i l.n)
