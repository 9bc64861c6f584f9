-- `count_below_from` meets its contract: wherever it looks, the search keeps the count of what is below x between its two ends.
use Rattle.std.proofs.Common.{◌≡◌, ◌-◌, ◌≤◌, ltb}
use Rattle.lists.specs.Lists.{count}
use Rattle.lists.specs.Runs.{field}
use Rattle.lists.proofs.Search.{below}
use Rattle.runs.specs.Fields.{values}
use Rattle.runs.proofs.fields.Fields.count_below_from.Given as goal

abbrev pub invariant-loop-lo : goal.invariant-loop-lo
invariant-loop-lo l = (l.lo ≤ l.hi) × (l.hi ≤ l.self.n) × (count (λ y. ltb y l.x) (values l.self) ≡ below (field l.self.size l.self.at l.self.words.now) l.x l.lo l.hi)

abbrev pub decreases-loop-lo : goal.decreases-loop-lo
decreases-loop-lo l = l.hi - l.lo
