-- `ascend_then` meets its contract: the loop tests each record with the one before it, as the definition does.
use Rattle.std.proofs.Common.{◌≡◌, ◌-◌}
use Rattle.lists.specs.Lists.{chained, before}
use Rattle.lists.specs.Runs.{from, pair_at, pairs}
use Rattle.runs.proofs.fields.Fields.ascend_then.Given as goal

abbrev pub invariant-loop-i : goal.invariant-loop-i
invariant-loop-i l = chained before (pairs l.self.size l.self.at l.second l.self.words.now l.self.n) ≡ chained before (from (pair_at l.self.size l.self.at l.second l.self.words.now) (l.i - 1) l.self.n)
