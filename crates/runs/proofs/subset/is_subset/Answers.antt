-- `is_subset` meets its contract: both lists ascend, so a word of b that is passed over is no word of a that is still to come.
use Rattle.std.proofs.Common.{sym, ◌∙◌, arith}
use Rattle.lists.proofs.Subsets.{inside_start, inside_less, inside_same, inside_more, inside_end, inside_over}
use Rattle.runs.proofs.subset.is_subset.Goals.{then-x-y-2, else-x-y-2}
use Rattle.runs.proofs.subset.is_subset.Goals as goal

pub loop-y-init : goal.loop-y-init
loop-y-init c = (omega arith, inside_start _ _)

pub returns-then-i-a : goal.returns-then-i-a
returns-then-i-a c = sym (c.loop-y.invariant.1 ∙ inside_end _ _ _ _ (omega arith))

pub returns-then-x-y : goal.returns-then-x-y
returns-then-x-y c =
    let p = c.requires in
    sym (c.loop-y.invariant.1 ∙ inside_less _ _ _ _ (omega arith) p.0 p.1 c.loop-y-test.true c.if-x-y.true)

pub loop-y-preserved : goal.loop-y-preserved
loop-y-preserved c =
    let p = c.requires in
    let h = c.loop-y.invariant in
    elim c.if-x-y-2.branch [
      | then-x-y-2 w ↦ rw w.i-is (omega arith, h.1 ∙ inside_same _ _ _ _ (omega arith) p.0 p.1 c.loop-y-test.true w.if-x-y-2.true)
      | else-x-y-2 w ↦ rw w.i-is (h.0, h.1 ∙ inside_more _ _ _ _ (omega arith) p.0 p.1 c.loop-y-test.true (omega (arith, w.if-x-y-2.false)))
    ]

pub returns : goal.returns
returns c = inside_over _ _ _ _ c.loop-y.invariant.0 c.loop-y-test.false ∙ sym c.loop-y.invariant.1
