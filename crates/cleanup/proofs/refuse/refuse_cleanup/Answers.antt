-- `refuse_cleanup` meets its contract: the answer has so many words for each record that is due.
use native.Mathlib.Omega.{arith}
use borrow.Author.Tests.{not-false}
use Rattle.refusals.proofs.Laws.{is_sound_lem, unsound}
use Rattle.cleanup.proofs.Refused.{due_most, cleanup_short, cleanup_accepted}
use Rattle.cleanup.proofs.refuse.refuse_cleanup.Goals as goal

pub returns-then-not-checked : goal.returns-then-not-checked
returns-then-not-checked c w e k = unsound w _ k _ _ c.if-not-checked.true

pub count_due-due-requires : goal.count_due-due-requires
count_due-due-requires c =
    c.requires (not-false _ c.if-not-checked.false)

pub overflow_mul-due : goal.overflow_mul-due
overflow_mul-due c =
    let a = c.args in
    omega (arith, c.count_due-due.ensures, due_most a.scheduled.now a.counts.scheduled a.t, (c.requires (not-false _ c.if-not-checked.false)).few)

pub returns-then-area_length-due : goal.returns-then-area_length-due
returns-then-area_length-due c w e k =
    cleanup_short w _ _ _ e c.count_due-due.ensures (is_sound_lem w _ k c.if-not-checked.false) c.if-area_length-due.true

pub returns : goal.returns
returns c w e k =
    cleanup_accepted w _ _ _ e c.count_due-due.ensures (is_sound_lem w _ k c.if-not-checked.false) c.if-area_length-due.false
