-- `flag_later` meets its contract: each turn sets the flag of its place.
use mathlib.Core.Path.{ap, ◌∙◌}
use mathlib.Core.Bool.{not}
use native.Mathlib.Omega.{arith}
use lib.Dec.{ltb}
use Rattle.lists.proofs.Flags.{flags_start, flags_next}
use Rattle.cleanup.specs.Handed.{stays_at}
use Rattle.cleanup.proofs.due.flag_later.Goals as goal

pub loop-i-init : goal.loop-i-init
loop-i-init c = flags_start _ _

pub loop-i-preserved : goal.loop-i-preserved
loop-i-preserved c =
    flags_next (stays_at c.args.scheduled.now c.args.t) _ _ _ c.loop-i.invariant (omega arith) (ap not (c.is_due-due.ensures ∙ ap (λ x. ltb x c.args.t) c.scheduled_start-start.ensures)) c.set_flag.ensures

pub returns : goal.returns
returns c = let f = c.loop-i.invariant in record { set = λ j h. f.set j (omega (arith, h, c.loop-i-test.false)) }
