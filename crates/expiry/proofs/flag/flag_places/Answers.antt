-- `flag_places` meets its contract: each turn sets the flag of its place.
use native.Mathlib.Omega.{arith}
use Rattle.lists.proofs.Flags.{flags_next}
use Rattle.expiry.proofs.flag.flag_places.Goals as goal

pub loop-i-preserved : goal.loop-i-preserved
loop-i-preserved g c q e =
    flags_next q _ _ _ (c.loop-i.invariant q e) (omega arith) (e _ _ (omega arith) c.stays-here.ensures) c.set_flag.ensures

pub returns : goal.returns
returns g c q e = record { set = λ j h. (c.loop-i.invariant q e).set j (omega (arith, h)) }
