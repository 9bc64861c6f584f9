-- `ascend` meets its contract: the loop tests each word against the one before it, as the definition does.
use Rattle.std.proofs.Common.{sym, ◌∙◌, arith, le-ltb, lt-ltb}
use Rattle.lists.proofs.Loops.{chained_turn, chained_stop, chained_end}
use Rattle.runs.proofs.fields.Fields.ascend.Goals as goal

pub returns-then-b-a : goal.returns-then-b-a
returns-then-b-a c =
    sym (c.loop-i.invariant ∙ chained_stop _ _ _ _ (omega arith) c.loop-i-test.true (cc (le-ltb c.get-a.result c.get-b.result (omega (arith, c.if-b-a.true)))))

pub loop-i-preserved : goal.loop-i-preserved
loop-i-preserved c = c.loop-i.invariant ∙ chained_turn _ _ _ _ (omega arith) c.loop-i-test.true (cc (lt-ltb _ _ c.if-b-a.false))

pub returns : goal.returns
returns c = sym (c.loop-i.invariant ∙ chained_end _ _ _ _ (omega arith))
