-- `four_bytes` meets its contract: each byte counts in its own power, and is less than a byte's numbers.
use native.Mathlib.Omega.{arith}
use Rattle.names.proofs.NameWords.{half_sum}
use Rattle.names.proofs.four_bytes.Goals as goal

pub returns : goal.returns
returns c =
    let p = c.wide in
    let q = c.wide-2 in
    let r = c.wide-3 in (
      omega (arith, half_sum c.args.names.now c.args.a c.requires 0 p.ensures.0 q.ensures.0 r.ensures.0 c.wide-4.ensures.0),
      omega arith,
    )
