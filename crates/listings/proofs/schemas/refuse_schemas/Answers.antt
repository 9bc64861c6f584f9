-- `refuse_schemas` meets its contract: unsound tables, or a snapshot that isn't retained.
use Rattle.refusals.proofs.Laws.{is_sound_lem, reading_unsound}
use Rattle.refusals.proofs.Tests.{◌then◌, done, reading_judged}
use Rattle.readings.proofs.Found.{snapshots_by_id}
use Rattle.readings.proofs.Judged.{retained_as}
use Rattle.listings.proofs.schemas.refuse_schemas.Goals as goal

pub returns-then-not-checked : goal.returns-then-not-checked
returns-then-not-checked c l = reading_unsound _ _ l.checked _ c.if-not-checked.true

pub is_retained-there-requires : goal.is_retained-there-requires
is_retained-there-requires c = snapshots_by_id _ _ (is_sound_lem _ _ c.requires.checked c.if-not-checked.false) c.requires.snapshots

pub returns : goal.returns
returns c l =
    let w = l.words in
    reading_judged w _ (is_sound_lem w _ l.checked c.if-not-checked.false) _ c.first_refused.ensures
    (retained_as w _ _ l.snapshots c.is_retained-there.ensures then λ _.
    done)
