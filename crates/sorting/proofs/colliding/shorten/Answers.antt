-- `shorten` meets its contract: the hashes below i are short, and the others as they were.
use Rattle.std.proofs.Common.{◌%◌, ap, arith, length-set}
use Rattle.sorting.specs.Colliding.{some_hashes}
use Rattle.sorting.proofs.Collisions.{mapped_next, head_kept, rest_kept}
use Rattle.sorting.proofs.colliding.shorten.Goals as goal

pub loop-i-preserved : goal.loop-i-preserved
loop-i-preserved c =
    let l = c.loop-i in
    let t = c.loop-i-test.true in
    let v = l.invariant in (
      omega (arith, t),
      rw length-set v.1,
      mapped_next v.2 t v.1 (ap (λ h. h % some_hashes) (head_kept _ l.hashes l.i v.3 v.1 t)),
      rest_kept _ l.hashes l.i v.3 v.1 t l.i _ (omega arith),
    )
