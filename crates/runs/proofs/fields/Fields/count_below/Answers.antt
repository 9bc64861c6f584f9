-- `count_below` meets its contract: where the word at `near` is not below x, and that before it, if there is one, is, so many are.
use Rattle.std.proofs.Common.{arith}
use Rattle.runs.proofs.Places.{none_below, parted_below}
use Rattle.runs.proofs.fields.Fields.count_below.Goals as goal

pub returns-then-near-eq0 : goal.returns-then-near-eq0
returns-then-near-eq0 c =
    none_below _ _ c.requires c.args.near c.if-near-self.true _ (omega (arith, c.get-z.ensures, c.if-x-z.true)) c.if-near-eq0.true

pub returns-then-y-x : goal.returns-then-y-x
returns-then-y-x c =
    parted_below _ _ c.requires _ c.if-near-self.true _ (omega (arith, c.get-z.ensures, c.if-x-z.true))
    (omega (arith, c.if-near-eq0.false)) (omega (arith, c.get-y.ensures, c.if-y-x.true))
