-- One pass over the positions and over those deleted: a position is deleted just where it is the next of these.
use mathlib.Core.Path.{refl}
use native.Mathlib.Omega.{arith}
use Rattle.row_lists.proofs.Merges.{filling_start, filling_room, filling_kept, filling_gone, filling_end}
use Rattle.row_lists.proofs.rows.fill_rows.Goals as goal
use Rattle.row_lists.proofs.rows.fill_rows.Goals.{then-is_at, else-is_at}

pub loop-p-init : goal.loop-p-init
loop-p-init c = filling_start c.args.part.now c.requires.1

-- a position that is kept has room, in a part that is as long as a run can be
pub bounds-part-k : goal.bounds-part-k
bounds-part-k c = filling_room c.requires.0.ascending c.loop-p.invariant c.loop-p-test.true c.is_at.ensures c.if-is_at.false

pub offset_bounds-part-k : goal.offset_bounds-part-k
offset_bounds-part-k c = omega (arith, c.loop-p.auto.part, filling_room c.requires.0.ascending c.loop-p.invariant c.loop-p-test.true c.is_at.ensures c.if-is_at.false)

pub overflow_add-k : goal.overflow_add-k
overflow_add-k c = omega (arith, c.loop-p.auto.part, filling_room c.requires.0.ascending c.loop-p.invariant c.loop-p-test.true c.is_at.ensures c.if-is_at.false)

pub loop-p-preserved : goal.loop-p-preserved
loop-p-preserved c =
    let l = c.loop-p.invariant in
    let t = c.loop-p-test.true in
    elim c.if-is_at.branch [
      | then-is_at w ↦ rw (w.part-is, w.k-is, w.j-is) (filling_gone c.requires.0.ascending l t c.is_at.ensures w.if-is_at.true)
      | else-is_at w ↦ rw (w.part-is, w.k-is, w.j-is) (filling_kept c.requires.0.ascending l t c.is_at.ensures w.if-is_at.false refl)
    ]

pub returns : goal.returns
returns c = filling_end c.requires.1 c.loop-p.invariant c.loop-p-test.false
