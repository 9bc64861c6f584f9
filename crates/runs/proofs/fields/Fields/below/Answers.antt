-- `below` meets its contract: the loop tests each word, as the definition does.
use Rattle.std.proofs.Common.{sym, ◌∙◌, le-ltb, lt-ltb}
use Rattle.lists.proofs.Loops.{all_pass, all_fail, all_end}
use Rattle.runs.proofs.fields.Fields.below.Goals as goal

pub returns-then-limit-get : goal.returns-then-limit-get
returns-then-limit-get c = sym (c.loop-i.invariant ∙ all_fail _ _ _ _ c.loop-i-test.true (cc (le-ltb _ _ c.if-limit-get.true)))

pub loop-i-preserved : goal.loop-i-preserved
loop-i-preserved c = c.loop-i.invariant ∙ all_pass _ _ _ _ c.loop-i-test.true (cc (lt-ltb _ _ c.if-limit-get.false))

pub returns : goal.returns
returns c = sym (c.loop-i.invariant ∙ all_end _ _ _ _ c.loop-i-test.false)
