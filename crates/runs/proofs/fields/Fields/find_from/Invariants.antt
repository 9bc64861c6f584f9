-- `find_from` meets its contract: what stands before the two ends of the search is below x, and what stands behind them is above.
use Rattle.std.proofs.Common.{◌-◌}
use Rattle.lists.specs.Runs.{field}
use Rattle.runs.proofs.Places.{Between}
use Rattle.runs.proofs.fields.Fields.find_from.Given as goal

abbrev pub invariant-loop-lo : goal.invariant-loop-lo
invariant-loop-lo l = Between (field l.self.size l.self.at l.self.words.now) l.x l.self.n l.lo l.hi

abbrev pub decreases-loop-lo : goal.decreases-loop-lo
decreases-loop-lo l = l.hi - l.lo
