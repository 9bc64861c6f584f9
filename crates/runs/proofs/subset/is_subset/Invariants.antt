-- `is_subset` meets its contract: both lists ascend, so a word of b that is passed over is no word of a that is still to come.
use Rattle.std.proofs.Common.{◌≡◌, ◌≤◌, length}
use Rattle.lists.specs.Lists.{all, has}
use Rattle.lists.proofs.Subsets.{inside}
use Rattle.runs.proofs.subset.is_subset.Given as goal

abbrev pub invariant-loop-y : goal.invariant-loop-y
invariant-loop-y l = (l.i ≤ length l.a) × (all (λ x. has x l.b) l.a ≡ inside l.a l.b l.i l.y-index)
