-- `first_deleted` meets its contract: both lists ascend, so the lower of two that differ is not in what is left of the other list.
use mathlib.Core.Path.{sym, ◌∙◌}
use native.Mathlib.Omega.{arith}
use Rattle.row_deletion.proofs.Offending.{offending_start, offending_end, offending_past, offending_here, offending_less, offending_more}
use Rattle.row_deletion.proofs.positions.first_deleted.Goals as goal

pub loop-i-init : goal.loop-i-init
loop-i-init c = (omega arith, omega arith, λ d p. offending_start _ _)

pub returns-then-deleted-j : goal.returns-then-deleted-j
returns-then-deleted-j c d p = sym (c.loop-i.invariant.2 d p ∙ offending_past _ _ _ _ c.if-deleted-j.true)

pub returns-then-p-d : goal.returns-then-p-d
returns-then-p-d c d p =
    sym (c.loop-i.invariant.2 d p ∙ offending_here _ _ _ _ c.loop-i-test.true c.if-deleted-j.false c.if-p-d.true)

pub loop-i-preserved-then-p-d-2 : goal.loop-i-preserved-then-p-d-2
loop-i-preserved-then-p-d-2 c =
    (omega arith, omega arith, λ d p. c.loop-i.invariant.2 d p ∙ offending_less _ _ _ _ c.loop-i-test.true c.if-deleted-j.false d c.if-p-d-2.true)

pub loop-i-preserved : goal.loop-i-preserved
loop-i-preserved c =
    (omega arith, omega arith, λ d p. c.loop-i.invariant.2 d p ∙ offending_more _ _ _ _ c.loop-i-test.true c.if-deleted-j.false p (omega (arith, c.if-p-d-2.false, c.if-p-d.false)))

pub returns : goal.returns
returns c d p = sym (c.loop-i.invariant.2 d p ∙ offending_end _ _ _ _ c.loop-i-test.false)
