-- `find_snapshot_by_time` keeps the promise: refused, or the answer or 3.
use mathlib.Core.Path.{refl}
use Rattle.layout.proofs.Refusals.{not_accepted}
use Rattle.readings.proofs.Promises.{reading_refused, reading_answered}
use Rattle.listings.proofs.time.find_snapshot_by_time.Goals as goal

pub returns-in-Ok : goal.returns-in-Ok
returns-in-Ok c l =
    rw c.answered.ensures (reading_answered _ _ _ (c.in-Ok.ensures.refusal l) _ refl (c.in-Ok.ensures.id l) c.answer_one.ensures)

pub returns-in-Err : goal.returns-in-Err
returns-in-Err c l =
    rw c.refused.ensures (reading_refused _ _ _ (c.in-Err.ensures.refusal l) _ (not_accepted _))
