-- `shorten` meets its contract: the hashes below i are short, and the others as they were.
use Rattle.std.proofs.Common.{◌≡◌, ◌%◌, ◌≤◌, length, drop}
use Rattle.sorting.specs.Colliding.{some_hashes}
use Rattle.sorting.proofs.Collisions.{Mapped}
use Rattle.sorting.proofs.colliding.shorten.Given as goal

abbrev pub invariant-loop-i : goal.invariant-loop-i
invariant-loop-i l =
    (l.i ≤ length l.initial.hashes) × (length l.hashes ≡ length l.initial.hashes) × Mapped (λ h. h % some_hashes) l.initial.hashes l.hashes l.i × (drop l.i l.hashes ≡ drop l.i l.initial.hashes)
