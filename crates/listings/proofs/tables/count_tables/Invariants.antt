-- The loop tests each table as the definition does, and counts those that pass.
use Prim.Native.Nat.{ℕ, ◌≤◌}
use mathlib.Core.Path.{◌≡◌}
use mathlib.Core.List.{List}
use lib.ListN.{length}
use Rattle.lists.proofs.Loops.{counted}
use Rattle.layout.specs.Words.{table_at, tables_in}
use Rattle.ducklake.specs.Liveness.{tables_at}
use Rattle.listings.specs.Tests.{in_schema}
use Rattle.listings.proofs.tables.count_tables.Given as goal

abbrev pub invariant-loop-i : goal.invariant-loop-i
invariant-loop-i l =
    (l.k ≤ l.i) × ((names : List ℕ) → length (tables_at (tables_in l.tables names l.n) l.s.0 l.schema.0) ≡ counted (table_at l.tables names) (in_schema l.schema.0 l.s.0) l.n l.k l.i)
