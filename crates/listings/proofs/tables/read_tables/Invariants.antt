-- `read_tables` meets its contract: the loop tests each table as the definition does, and writes the ids of those that pass one behind the other: there is room for all of them.
use Prim.Native.Nat.{ℕ, ◌≤◌}
use mathlib.Core.Path.{◌≡◌}
use mathlib.Core.List.{List}
use lib.ListN.{length}
use Rattle.lists.proofs.Loops.{counted, sent}
use Rattle.layout.specs.Words.{table_at, tables_in}
use Rattle.ducklake.specs.Liveness.{tables_at}
use Rattle.listings.specs.Tests.{in_schema}
use Rattle.listings.proofs.tables.read_tables.Given as goal

abbrev pub invariant-loop-i : goal.invariant-loop-i
invariant-loop-i l =
    (l.k ≤ l.i) × ((names : List ℕ) → length (tables_at (tables_in l.tables names l.n) l.s.0 l.schema.0) ≡ counted (table_at l.tables names) (in_schema l.schema.0 l.s.0) l.n l.k l.i)
    × ((names : List ℕ) → sent (table_at l.tables names) (in_schema l.schema.0 l.s.0) l.n (λ t. t.id) l.initial.area 0 0 ≡ sent (table_at l.tables names) (in_schema l.schema.0 l.s.0) l.n (λ t. t.id) l.area l.k l.i)
