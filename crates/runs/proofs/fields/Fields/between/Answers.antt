-- `between` meets its contract: the loop tests each word as the definition does, and stops at the first that fails.
use Rattle.std.proofs.Common.{sym, ap, ◌∙◌}
use Rattle.lists.proofs.Loops.{all_passed, all_failed, all_end}
use Rattle.runs.proofs.fields.Fields.between.Invariants.{between}
use Rattle.runs.proofs.fields.Fields.between.Goals as goal

pub returns-then-not-ok : goal.returns-then-not-ok
returns-then-not-ok c =
    let a = c.args in
    sym (c.loop-i.invariant ∙ all_failed _ _ _ _ c.loop-i-test.true (ap (between a.low a.high) c.get-a.ensures) c.if-not-ok.true-raw)

pub loop-i-preserved : goal.loop-i-preserved
loop-i-preserved c =
    let a = c.args in
    c.loop-i.invariant ∙ all_passed _ _ _ _ c.loop-i-test.true (ap (between a.low a.high) c.get-a.ensures) c.if-not-ok.false-raw

pub returns : goal.returns
returns c = sym (c.loop-i.invariant ∙ all_end _ _ _ _ c.loop-i-test.false)
