-- `count_live` meets its contract: the loop counts the records that are live.
use mathlib.Core.Path.{sym, ◌∙◌}
use native.Mathlib.Omega.{arith}
use Rattle.lists.proofs.Runs.{record_fits}
use Rattle.lists.proofs.Loops.{counted_from, counted_pass, counted_fail, counted_end}
use Rattle.listings.proofs.lives.count_live.Goals as goal
use Rattle.listings.proofs.lives.count_live.Goals.{then-is_live_at, else-is_live_at}

pub loop-i-init : goal.loop-i-init
loop-i-init c = (omega arith, counted_from _ _ _ _)

pub is_live_at-requires : goal.is_live_at-requires
is_live_at-requires c =
    (record_fits _ c.loop-i-test.true c.requires.0, c.requires.1)

pub loop-i-preserved : goal.loop-i-preserved
loop-i-preserved c =
    let h = c.loop-i.invariant in
    let t = c.loop-i-test.true in
    elim c.if-is_live_at.branch [
      | then-is_live_at w ↦ rw w.k-is (omega arith, h.1 ∙ counted_pass _ _ _ _ _ t (sym c.is_live_at.ensures ∙ w.if-is_live_at.true))
      | else-is_live_at w ↦ rw w.k-is (omega arith, h.1 ∙ counted_fail _ _ _ _ _ t (sym c.is_live_at.ensures ∙ w.if-is_live_at.false))
    ]

pub returns : goal.returns
returns c = sym (c.loop-i.invariant.1 ∙ counted_end _ _ _ _ _ c.loop-i-test.false)
