-- `refuse_column` meets its contract: unsound tables, or the first of its tests that isn't passed.
use Rattle.refusals.proofs.Laws.{is_sound_lem, reading_unsound}
use Rattle.refusals.proofs.Tests.{◌then◌, done, reading_judged}
use Rattle.readings.proofs.Found.{snapshots_by_id, tables_by_id_lem, columns_by_table_lem}
use Rattle.readings.proofs.Judged.{retained_as, table_live_as}
use Rattle.scans.proofs.Columns.{column_live_as}
use Rattle.scans.proofs.filtered.refuse_column.Goals as goal

pub returns-then-not-checked : goal.returns-then-not-checked
returns-then-not-checked c l scalar = reading_unsound _ _ l.checked _ c.if-not-checked.true

pub is_retained-there-requires : goal.is_retained-there-requires
is_retained-there-requires c = snapshots_by_id _ _ (is_sound_lem _ _ c.requires.checked c.if-not-checked.false) c.requires.snapshots

pub table_is_live-live-requires : goal.table_is_live-live-requires
table_is_live-live-requires c = tables_by_id_lem _ _ (is_sound_lem _ _ c.requires.checked c.if-not-checked.false) c.requires.tables

pub column_is_live-known-requires : goal.column_is_live-known-requires
column_is_live-known-requires c = columns_by_table_lem _ _ (is_sound_lem _ _ c.requires.checked c.if-not-checked.false) c.requires.columns

pub returns : goal.returns
returns c l scalar =
    let w = l.words in
    reading_judged w _ (is_sound_lem w _ l.checked c.if-not-checked.false) _ c.first_refused.ensures
    (retained_as w _ _ l.snapshots c.is_retained-there.ensures then λ _.
    table_live_as w _ _ _ l.tables (c.table_is_live-live.ensures w.table_names) then λ _.
    column_live_as w _ _ _ _ l.columns (c.column_is_live-known.ensures w.column_names) then λ _.
    done)
