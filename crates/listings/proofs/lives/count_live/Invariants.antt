-- `count_live` meets its contract: the loop counts the records that are live.
use Prim.Native.Nat.{◌≤◌}
use mathlib.Core.Path.{◌≡◌}
use lib.ListN.{length}
use Rattle.lists.proofs.Loops.{counted}
use Rattle.ducklake.specs.Liveness.{live}
use Rattle.lookup.specs.Versions.{life_at, with_life}
use Rattle.listings.specs.Places.{places_live}
use Rattle.listings.proofs.lives.count_live.Given as goal

abbrev pub invariant-loop-i : goal.invariant-loop-i
invariant-loop-i l =
    (l.k ≤ l.i) × (length (places_live l.size l.begin l.run l.s.0 l.start l.end) ≡ counted (λ i. i) (λ i. live l.s.0 (with_life (life_at l.size l.begin l.run i))) l.end l.k l.i)
