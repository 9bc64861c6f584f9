-- `clean_up` keeps the promise: refused it leaves all as it was, accepted it hands out and removes what is due.
use mathlib.Core.Path.{refl}
use Rattle.layout.proofs.Refusals.{not_accepted}
use Rattle.cleanup.proofs.Lent.{scheduled_lent_lem, due_lent, cleanup_refused, cleanup_done}
use Rattle.cleanup.proofs.clean.clean_up.Goals as goal

pub refuse_cleanup-requires : goal.refuse_cleanup-requires
refuse_cleanup-requires c =
    scheduled_lent_lem c.requires

pub returns-in-Err : goal.returns-in-Err
returns-in-Err c l =
    rw c.refused.ensures (cleanup_refused l _ _ c.in-Err.ensures (not_accepted _))

pub hand_out-length-requires : goal.hand_out-length-requires
hand_out-length-requires c =
    due_lent c.requires _ _ c.in_default.ensures refl

pub remove_due-left-requires : goal.remove_due-left-requires
remove_due-left-requires c =
    (due_lent c.requires _ _ c.in_default.ensures refl).0

pub returns : goal.returns
returns c l =
    rw c.accepted.ensures (cleanup_done l _ _ c.in_default.ensures refl c.hand_out-length.ensures c.remove_due-left.ensures)
