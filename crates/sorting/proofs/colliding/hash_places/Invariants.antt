-- `hash_places` meets its contract: the hash of each place is written in its turn.
use Rattle.std.proofs.Common.{◌≡◌, ◌≤◌, length}
use Rattle.sorting.specs.Colliding.{hash_at}
use Rattle.sorting.proofs.Collisions.{Mapped}
use Rattle.sorting.proofs.colliding.hash_places.Given as goal

abbrev pub invariant-loop-i : goal.invariant-loop-i
invariant-loop-i l =
    (l.i ≤ length l.w) × (length l.hashes ≡ length l.w) × Mapped (hash_at l.round l.used l.keys.size l.keys.words.now) l.w l.hashes l.i
