-- `count_hashes` meets its contract: at every turn the hashes so far are counted.
use Rattle.std.proofs.Common.{◌≡◌, length, take}
use Rattle.sorting.specs.Colliding.{Counted}
use Rattle.sorting.proofs.colliding.count_hashes.Given as goal

abbrev pub invariant-loop-h : goal.invariant-loop-h
invariant-loop-h l = (length l.counts ≡ length l.initial.counts) × Counted (take l.h-index l.hashes) l.counts
