-- `refuse_insert` meets its contract: its tests, folded in the definition's order.
use mathlib.Core.Path.{ap, ◌∙◌}
use borrow.Author.Tests.{not-false}
use Rattle.ducklake.specs.Soundness.{snapshot_in_range}
use Rattle.call_laws.proofs.CommitCounts.{insert_adds_lem}
use Rattle.refusals.proofs.Laws.{is_sound_lem, room_as, unsound}
use Rattle.refusals.proofs.Tests.{◌then◌, done, commit_judged}
use Rattle.commits.proofs.Judged.{time_as, table_live_as}
use Rattle.row_insertion.proofs.Judges.{statistics_as, numbers_as}
use Rattle.row_insertion.proofs.refuse.refuse_insert.Goals as goal

pub returns-then-not-checked : goal.returns-then-not-checked
returns-then-not-checked c w p q r f d x k m = unsound w _ k m _ c.if-not-checked.true

pub latest_snapshot-latest-requires : goal.latest_snapshot-latest-requires
latest_snapshot-latest-requires c =
    let l = (c.requires (not-false _ c.if-not-checked.false)).latest in
    (l.held, l.some)

pub table_is_live-live-requires : goal.table_is_live-live-requires
table_is_live-live-requires c =
    (c.requires (not-false _ c.if-not-checked.false)).tables

pub uuid_is_free-free-requires : goal.uuid_is_free-free-requires
uuid_is_free-free-requires c =
    (c.requires (not-false _ c.if-not-checked.false)).files

pub statistics_argument_fits-given-requires : goal.statistics_argument_fits-given-requires
statistics_argument_fits-given-requires c =
    (c.requires (not-false _ c.if-not-checked.false)).columns

pub numbers_fit-fits-requires : goal.numbers_fit-fits-requires
numbers_fit-fits-requires c =
    let p = c.requires (not-false _ c.if-not-checked.false) in
    record { in_range = ap snapshot_in_range c.latest_snapshot-latest.ensures ∙ p.latest.in_range; tables = p.tables }

pub returns : goal.returns
returns c w p q r f d x k m =
    let l = c.latest_snapshot-latest.ensures in
    let s = is_sound_lem w _ k c.if-not-checked.false in
    commit_judged w _ k s m _ _ (insert_adds_lem _ _ _ _ _ _) c.first_refused.ensures
    (table_live_as w _ p l _ q (c.table_is_live-live.ensures w.table_names) then λ is_live.
    time_as w _ p l _ c.is_in_time-in_time.ensures then λ _.
    c.is_record_count-counted.ensures then λ _.
    c.uuid_is_free-free.ensures w f d x then λ _.
    statistics_as w _ p l _ _ _ r (c.statistics_argument_fits-given.ensures w.column_names) then λ _.
    numbers_as w _ p l _ _ _ _ _ s q is_live (c.numbers_fit-fits.ensures w.table_names) then λ _.
    room_as _ _ c.has_room-room.ensures c.insert_adds-added.ensures then λ _.
    done)
