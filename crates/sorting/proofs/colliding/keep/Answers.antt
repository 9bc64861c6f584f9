-- `keep` meets its contract: what was moved to the front and what is still to be looked at come to the same at every turn.
use Rattle.std.proofs.Common.{arith}
use Rattle.sorting.proofs.Collisions.{hash_in, moved_kept, moved_left, moved_end}
use Rattle.sorting.proofs.colliding.keep.Goals.{then-c-gt1, else-c-gt1}
use Rattle.sorting.proofs.colliding.keep.Goals as goal

pub bounds-counts-hashes : goal.bounds-counts-hashes
bounds-counts-hashes c =
    let p = c.requires in hash_in _ _ _ p.1 (omega (arith, p.0, c.loop-i-test.true))

pub loop-i-preserved : goal.loop-i-preserved
loop-i-preserved c =
    elim c.if-c-gt1.branch [
      | then-c-gt1 w ↦ rw w.k-is (moved_kept c.loop-i.invariant c.loop-i-test.true (omega (arith, w.if-c-gt1.true)))
      | else-c-gt1 w ↦ rw w.k-is (moved_left c.loop-i.invariant c.loop-i-test.true (omega (arith, w.if-c-gt1.false)))
    ]

pub returns : goal.returns
returns c = let l = c.loop-i.invariant in (l.long, omega (arith, l.most), moved_end l c.loop-i-test.false)
