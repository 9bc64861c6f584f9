-- `count_hashes` meets its contract: at every turn the hashes so far are counted.
use Rattle.std.proofs.Common.{refl, arith, length-set}
use Rattle.sorting.proofs.Collisions.{counted_next, counted_full, hash_in}
use Rattle.sorting.proofs.colliding.count_hashes.Goals.{then-c-lt2, else-c-lt2}
use Rattle.sorting.proofs.colliding.count_hashes.Goals as goal

pub bounds-counts-h : goal.bounds-counts-h
bounds-counts-h c = omega (arith, c.loop-h.invariant.0, hash_in _ _ _ c.requires.1 c.loop-h-test.true)

pub bounds-counts-h-then-c-lt2 : goal.bounds-counts-h-then-c-lt2
bounds-counts-h-then-c-lt2 c = omega (arith, c.loop-h.invariant.0, hash_in _ _ _ c.requires.1 c.loop-h-test.true)

pub loop-h-preserved : goal.loop-h-preserved
loop-h-preserved c =
    let l = c.loop-h.invariant in
    elim c.if-c-lt2.branch [
      | then-c-lt2 w ↦ rw w.counts-is (rw length-set l.0, counted_next _ _ _ c.loop-h-test.true l.1 (omega (arith, l.0, hash_in _ _ _ c.requires.1 c.loop-h-test.true)) refl w.if-c-lt2.true)
      | else-c-lt2 w ↦ rw w.counts-is (l.0, counted_full _ _ _ c.loop-h-test.true l.1 w.if-c-lt2.false)
    ]
