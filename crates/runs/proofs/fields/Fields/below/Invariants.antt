-- `below` meets its contract: the loop tests each word, as the definition does.
use Rattle.std.proofs.Common.{◌≡◌, ltb}
use Rattle.lists.specs.Lists.{all}
use Rattle.lists.specs.Runs.{from, field}
use Rattle.runs.specs.Fields.{values}
use Rattle.runs.proofs.fields.Fields.below.Given as goal

abbrev pub invariant-loop-i : goal.invariant-loop-i
invariant-loop-i l = all (λ x. ltb x l.limit) (values l.self) ≡ all (λ x. ltb x l.limit) (from (field l.self.size l.self.at l.self.words.now) l.i l.self.n)
