-- `fill` meets its contract: each turn writes one place more.
use Rattle.std.proofs.Common.{sym, refl, ◌∙◌, arith, length-set}
use Rattle.lists.proofs.Loops.{filling_start, filling_next, filling_end}
use Rattle.runs.proofs.kept.fill.Goals as goal

pub loop-i-init : goal.loop-i-init
loop-i-init g c = (refl, filling_start _ _)

pub loop-i-preserved : goal.loop-i-preserved
loop-i-preserved g c = (simp length-set c.loop-i.invariant.0, c.loop-i.invariant.1 ∙ filling_next _ _ _ (omega (arith, c.loop-i.invariant.0)))

pub returns : goal.returns
returns g c = sym (c.loop-i.invariant.1 ∙ filling_end _ _ _ (omega (arith, c.loop-i.invariant.0)))
