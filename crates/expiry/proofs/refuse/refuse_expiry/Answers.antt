-- `refuse_expiry` meets its contract: its tests, folded in the definition's order.
use mathlib.Core.Path.{refl}
use Rattle.ducklake.specs.Calls.{answer}
use Rattle.refusals.proofs.Laws.{is_sound_lem, unsound}
use Rattle.refusals.proofs.Tests.{◌then◌, done, call_judged}
use Rattle.expiry.proofs.Refused.{retained_as, latest_as, scheduled_as}
use Rattle.expiry.proofs.refuse.refuse_expiry.Goals as goal

pub returns-then-not-checked : goal.returns-then-not-checked
returns-then-not-checked c w p q r k m time = unsound w _ k m _ c.if-not-checked.true

pub returns : goal.returns
unfolding answer
returns c w p q r k m time =
    let s = is_sound_lem w _ k c.if-not-checked.false in
    call_judged w _ s m _ refl refl c.first_refused.ensures
    (retained_as w _ _ p c.all_retained-retained.ensures then λ _.
    c.list_fits-fits.ensures then λ list_fits.
    latest_as w _ _ p c.latest_snapshot-latest.ensures c.lacks-keeps_latest.ensures then λ _.
    scheduled_as w _ _ time k s (c.count_files_removed-removed.ensures list_fits w p q r) c.more_fit-room.ensures then λ _.
    done)
