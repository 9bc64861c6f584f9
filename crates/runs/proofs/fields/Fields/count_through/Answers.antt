-- `count_through` meets its contract: where the word at `near` is at most x and the next one is not, so many are.
use Rattle.std.proofs.Common.{arith}
use Rattle.runs.proofs.Places.{parted_through, all_through}
use Rattle.runs.proofs.fields.Fields.count_through.Goals.{then-self-eq0-via-then-self-eq0, then-self-eq0-via-else-self-eq0+then-get-x}
use Rattle.runs.proofs.fields.Fields.count_through.Goals as goal

pub returns-then-y-x : goal.returns-then-y-x
returns-then-y-x c =
    parted_through _ _ c.requires _ c.if-next-self.true _ c.get-y.ensures c.get-z.ensures c.if-y-x.true

pub returns-then-self-eq0 : goal.returns-then-self-eq0
returns-then-self-eq0 c =
    all_through _ _ c.requires _ (λ l. elim c.then-self-eq0.branch [
      | then-self-eq0-via-then-self-eq0 w ↦ omega (arith, w.if-self-eq0.true)
      | then-self-eq0-via-else-self-eq0+then-get-x w ↦ omega (arith, w.get.ensures, w.if-get-x.true)
    ])
