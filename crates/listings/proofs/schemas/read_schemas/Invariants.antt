-- `read_schemas` meets its contract: the loop tests each schema as the definition does, and writes the ids of those that pass one behind the other: there is room for all of them.
use Prim.Native.Nat.{ℕ, ◌≤◌}
use mathlib.Core.Path.{◌≡◌}
use mathlib.Core.List.{List}
use lib.ListN.{length}
use Rattle.lists.proofs.Loops.{counted, sent}
use Rattle.layout.specs.Words.{schema_at, schemas_in}
use Rattle.ducklake.specs.Liveness.{live, schemas_at}
use Rattle.listings.proofs.schemas.read_schemas.Given as goal

abbrev pub invariant-loop-i : goal.invariant-loop-i
invariant-loop-i l =
    (l.k ≤ l.i) × ((names : List ℕ) → length (schemas_at (schemas_in l.schemas names l.n) l.s.0) ≡ counted (schema_at l.schemas names) (live l.s.0) l.n l.k l.i)
    × ((names : List ℕ) → sent (schema_at l.schemas names) (live l.s.0) l.n (λ v. v.id) l.initial.area 0 0 ≡ sent (schema_at l.schemas names) (live l.s.0) l.n (λ v. v.id) l.area l.k l.i)
