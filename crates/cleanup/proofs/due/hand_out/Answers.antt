-- `hand_out` meets its contract: each turn lays the words of the record at its place, if it is due, behind those laid before.
use mathlib.Core.Path.{refl, sym, ap, ◌∙◌}
use native.Mathlib.Omega.{arith}
use Rattle.lists.proofs.Writes.{laid_room, laid_pass, laid_fail, laid_done}
use Rattle.layout.specs.Catalog.{scheduled_of}
use Rattle.ducklake.specs.Maintenance.{due, handed_words}
use Rattle.cleanup.proofs.due.hand_out.Goals.{then-due, else-due}
use Rattle.cleanup.proofs.due.hand_out.Goals as goal

pub write_handed-requires : goal.write_handed-requires
write_handed-requires c =
    omega (arith, laid_room _ (due c.args.t) _ handed_words _ _ _ _ _ c.requires.1 c.loop-i.invariant (ap scheduled_of c.scheduled_at-r.ensures) c.loop-i-test.true (sym c.is_due-due.ensures ∙ c.if-due.true))

pub overflow_add-k : goal.overflow_add-k
overflow_add-k c =
    omega (arith, laid_room _ (due c.args.t) _ handed_words _ _ _ _ _ c.requires.1 c.loop-i.invariant (ap scheduled_of c.scheduled_at-r.ensures) c.loop-i-test.true (sym c.is_due-due.ensures ∙ c.if-due.true))

pub loop-i-preserved : goal.loop-i-preserved
loop-i-preserved c =
    let r = ap scheduled_of c.scheduled_at-r.ensures in
    elim c.if-due.branch [
      | then-due w ↦ rw (w.area-is, w.k-is) (laid_pass _ (due c.args.t) _ handed_words _ _ _ _ _ (omega (arith, c.requires.1)) c.loop-i.invariant r c.loop-i-test.true (sym c.is_due-due.ensures ∙ w.if-due.true) refl w.write_handed.ensures)
      | else-due w ↦ rw (w.area-is, w.k-is) (c.loop-i.invariant ∙ laid_fail _ (due c.args.t) _ handed_words _ _ _ r c.loop-i-test.true (sym c.is_due-due.ensures ∙ w.if-due.false))
    ]

pub returns : goal.returns
returns c =
    let d = laid_done _ (due c.args.t) _ handed_words _ _ _ _ c.loop-i.invariant c.loop-i-test.false in
    record { length = d.0; words = d.1 }
