-- `ascend` meets its contract: the loop tests each word against the one before it, as the definition does.
use Rattle.std.proofs.Common.{◌≡◌, ◌-◌, ltb}
use Rattle.lists.specs.Lists.{chained}
use Rattle.lists.specs.Runs.{from, field}
use Rattle.runs.specs.Fields.{values}
use Rattle.runs.proofs.fields.Fields.ascend.Given as goal

abbrev pub invariant-loop-i : goal.invariant-loop-i
invariant-loop-i l = chained ltb (values l.self) ≡ chained ltb (from (field l.self.size l.self.at l.self.words.now) (l.i - 1) l.self.n)
