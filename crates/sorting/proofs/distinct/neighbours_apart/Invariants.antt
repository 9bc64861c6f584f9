-- `neighbours_apart` meets its contract: the loop compares each two that follow each other.
use Rattle.std.proofs.Common.{◌≡◌, ◌-◌, ℕ, Bool, drop}
use Rattle.lists.specs.Lists.{chained}
use Rattle.sorting.specs.Ordered.{Tells}
use Rattle.sorting.proofs.distinct.neighbours_apart.Given as goal

abbrev pub invariant-loop-i : goal.invariant-loop-i
invariant-loop-i g l = (q : ℕ → ℕ → Bool) → Tells (goal.F-post g l.apart) q l.w → chained q l.w ≡ chained q (drop (l.i - 1) l.w)
