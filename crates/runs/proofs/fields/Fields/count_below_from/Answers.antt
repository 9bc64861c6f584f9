-- `count_below_from` meets its contract: wherever it looks, the search keeps the count of what is below x between its two ends.
use Rattle.std.proofs.Common.{sym, ◌∙◌, arith}
use Rattle.lists.proofs.Search.{below_start, below_up, below_down, below_end}
use Rattle.runs.proofs.fields.Fields.count_below_from.Goals as goal

pub loop-lo-init : goal.loop-lo-init
loop-lo-init c = (omega arith, omega arith, below_start _ _ _)

pub loop-lo-preserved-then-y-x : goal.loop-lo-preserved-then-y-x
loop-lo-preserved-then-y-x c =
    (omega arith, omega arith, c.loop-lo.invariant.2 ∙ below_up _ _ _ c.requires _ _ _ (omega arith) (omega arith) (omega arith) (omega (arith, c.get-y.ensures)))

pub loop-lo-preserved : goal.loop-lo-preserved
loop-lo-preserved c =
    (omega arith, omega arith, c.loop-lo.invariant.2 ∙ below_down _ _ _ c.requires _ _ _ (omega arith) (omega arith) (omega arith) (omega (arith, c.get-y.ensures)))

pub returns : goal.returns
returns c = sym (c.loop-lo.invariant.2 ∙ below_end _ _ _ _ c.loop-lo-test.false)
