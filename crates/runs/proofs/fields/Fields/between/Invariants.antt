-- `between` meets its contract: the loop tests each word as the definition does, and stops at the first that fails.
use Rattle.std.proofs.Common.{◌≡◌, ℕ, Bool, ◌&&◌, leb}
use Rattle.lists.specs.Lists.{all}
use Rattle.lists.specs.Runs.{from, field}
use Rattle.runs.specs.Fields.{values}
use Rattle.runs.proofs.fields.Fields.between.Given as goal

abbrev pub between : ℕ → ℕ → ℕ → Bool
between low high x = leb low x && leb x high

abbrev pub invariant-loop-i : goal.invariant-loop-i
invariant-loop-i l = all (between l.low l.high) (values l.self) ≡ all (between l.low l.high) (from (field l.self.size l.self.at l.self.words.now) l.i l.self.n)
