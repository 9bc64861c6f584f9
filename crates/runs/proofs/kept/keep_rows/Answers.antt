-- `keep_rows` meets its contract: a row that stays is copied behind those kept before; what is left at the end is cleared.
use Rattle.std.proofs.Common.{sym, ◌∙◌, arith}
use Rattle.runs.proofs.Keeping.{keeping_pass, keeping_fail, keeping_end}
use Rattle.runs.proofs.kept.keep_rows.Goals.{then-is_flagged, else-is_flagged}
use Rattle.runs.proofs.kept.keep_rows.Goals as goal

pub loop-i-preserved : goal.loop-i-preserved
loop-i-preserved g c =
    elim c.if-is_flagged.branch [
      | then-is_flagged w ↦ rw (w.w-is, w.kept-is) (keeping_pass c.loop-i.invariant c.loop-i-test.true (sym c.is_flagged.ensures ∙ w.if-is_flagged.true) w.copy_within.ensures.len w.copy_within.ensures.after)
      | else-is_flagged w ↦ rw (w.w-is, w.kept-is) (keeping_fail c.loop-i.invariant c.loop-i-test.true (sym c.is_flagged.ensures ∙ w.if-is_flagged.false))
    ]

pub returns : goal.returns
returns g c = keeping_end c.loop-i.invariant c.loop-i-test.false (omega arith) c.fill.ensures
