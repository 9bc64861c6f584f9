-- `find_from` meets its contract: what stands before the two ends of the search is below x, and what stands behind them is above.
use Rattle.std.proofs.Common.{sym, ◌∙◌, arith}
use Rattle.runs.proofs.Places.{up, down, here, nowhere}
use Rattle.runs.proofs.fields.Fields.find_from.Goals as goal

pub returns-then-y-x : goal.returns-then-y-x
returns-then-y-x c =
    sym (here _ _ _ c.requires _ (omega arith) (sym c.get-y.ensures ∙ c.if-y-x.true))

pub loop-lo-preserved-then-x-y : goal.loop-lo-preserved-then-x-y
loop-lo-preserved-then-x-y c =
    down _ _ _ c.requires c.loop-lo.invariant _ (omega arith) (omega arith) (omega (arith, c.get-y.ensures))

pub loop-lo-preserved : goal.loop-lo-preserved
loop-lo-preserved c =
    up _ _ _ c.requires c.loop-lo.invariant _ (omega arith) (omega (arith, c.if-y-x.false, c.get-y.ensures))

pub returns : goal.returns
returns c = sym (nowhere _ _ _ c.requires c.loop-lo.invariant c.loop-lo-test.false)
