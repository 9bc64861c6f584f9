-- `hash_pairs` meets its contract: the hash of each record is written at its place.
use Rattle.std.proofs.Common.{◌≡◌, ◌≤◌, map, length}
use Rattle.lists.specs.Lists.{range}
use Rattle.lists.specs.Runs.{overwrite}
use Rattle.sorting.specs.Colliding.{pair_hash}
use Rattle.sorting.proofs.Collisions.{placed}
use Rattle.sorting.proofs.colliding.hash_pairs.Given as goal

abbrev pub invariant-loop-i : goal.invariant-loop-i
invariant-loop-i l =
    (l.i ≤ l.n) × (length l.hashes ≡ length l.initial.hashes) × (overwrite l.initial.hashes l.from (map (pair_hash l.size l.a l.b l.w) (range 0 l.n)) ≡ placed (pair_hash l.size l.a l.b l.w) l.from l.n l.hashes l.i)
