-- `count_due` meets its contract: each turn counts the record at its place, as the definition does.
use mathlib.Core.Path.{sym, ap, ◌∙◌}
use native.Mathlib.Omega.{arith}
use lib.Dec.{ltb}
use Rattle.lists.proofs.Loops.{counted_start, counted_pass, counted_fail, counted_end}
use Rattle.cleanup.proofs.due.count_due.Goals.{then-due, else-due}
use Rattle.cleanup.proofs.due.count_due.Goals as goal

pub loop-i-init : goal.loop-i-init
loop-i-init c = (omega arith, counted_start _ _ _)

pub loop-i-preserved : goal.loop-i-preserved
loop-i-preserved c =
    let e = c.is_due-due.ensures ∙ ap (λ s. ltb s c.args.t) c.scheduled_start-start.ensures in
    elim c.if-due.branch [
      | then-due w ↦ rw w.k-is (omega arith, c.loop-i.invariant.1 ∙ counted_pass _ _ _ _ _ c.loop-i-test.true (sym e ∙ w.if-due.true))
      | else-due w ↦ rw w.k-is (omega arith, c.loop-i.invariant.1 ∙ counted_fail _ _ _ _ _ c.loop-i-test.true (sym e ∙ w.if-due.false))
    ]

pub returns : goal.returns
returns c = sym (c.loop-i.invariant.1 ∙ counted_end _ _ _ _ _ c.loop-i-test.false)
