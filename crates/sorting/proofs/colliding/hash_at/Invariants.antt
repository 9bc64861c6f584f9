-- `hash_at` meets its contract: the digest goes on word by word.
use Rattle.std.proofs.Common.{◌≡◌}
use Rattle.lists.specs.Runs.{from, field}
use Rattle.sorting.specs.Colliding.{prefix_at, digest}
use Rattle.sorting.proofs.colliding.hash_at.Given as goal

abbrev pub invariant-loop-k : goal.invariant-loop-k
invariant-loop-k l =
    digest l.round 0 (prefix_at l.used l.keys.size l.keys.words.now l.i) ≡ digest l.round l.h (from (λ k. field l.keys.size k l.keys.words.now l.i) l.k l.used)
