-- `refuse_tables` meets its contract: unsound tables, or the first of its tests that isn't passed.
use Rattle.refusals.proofs.Laws.{is_sound_lem, reading_unsound}
use Rattle.refusals.proofs.Tests.{◌then◌, done, reading_judged}
use Rattle.readings.proofs.Found.{snapshots_by_id, schemas_by_id_lem}
use Rattle.readings.proofs.Judged.{retained_as, schema_live_as}
use Rattle.listings.proofs.tables.refuse_tables.Goals as goal

pub returns-then-not-checked : goal.returns-then-not-checked
returns-then-not-checked c l = reading_unsound _ _ l.checked _ c.if-not-checked.true

pub is_retained-there-requires : goal.is_retained-there-requires
is_retained-there-requires c = snapshots_by_id _ _ (is_sound_lem _ _ c.requires.checked c.if-not-checked.false) c.requires.snapshots

pub schema_is_live-live-requires : goal.schema_is_live-live-requires
schema_is_live-live-requires c = schemas_by_id_lem _ _ (is_sound_lem _ _ c.requires.checked c.if-not-checked.false) c.requires.schemas

pub returns : goal.returns
returns c l =
    let w = l.words in
    reading_judged w _ (is_sound_lem w _ l.checked c.if-not-checked.false) _ c.first_refused.ensures
    (retained_as w _ _ l.snapshots c.is_retained-there.ensures then λ _.
    schema_live_as w _ _ _ l.schemas (c.schema_is_live-live.ensures w.schema_names) then λ _.
    done)
