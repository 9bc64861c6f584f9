-- `refuse_delete` meets its contract: its tests, folded in the definition's order.
use borrow.Author.Rules.{rules}
use mathlib.Core.Path.{refl, ap, ◌∙◌}
use lib.Dec.{ltb}
use borrow.Author.Tests.{not-false}
use Rattle.lists.specs.Lists.{chained}
use Rattle.ducklake.specs.Soundness.{snapshot_in_range}
use Rattle.call_laws.proofs.CommitCounts.{delete_adds_lem}
use Rattle.refusals.proofs.Laws.{is_sound_lem, room_as, unsound}
use Rattle.refusals.proofs.Tests.{◌then◌, done, commit_judged}
use Rattle.commits.proofs.Judged.{time_as, data_file_live_as}
use Rattle.commits.proofs.Room.{can_follow}
use Rattle.row_deletion.specs.DeleteRoom.{DeleteChecked}
use Rattle.row_deletion.proofs.Judges.{fit_as, moves_as, undeleted_as, adds_as}
use Rattle.row_deletion.proofs.Lent.{lent_checked, lent_deleted}
use Rattle.row_deletion.proofs.refuse.refuse_delete.Goals as goal

pub returns-then-not-checked : goal.returns-then-not-checked
returns-then-not-checked c l m = unsound l.words _ l.checked m _ c.if-not-checked.true

pub latest_snapshot-latest-requires : goal.latest_snapshot-latest-requires
latest_snapshot-latest-requires c =
    let looked : (let a = c.args in DeleteChecked a.snapshots.now a.data_files.now a.delete_files.now a.positions.now a.scheduled.now a.counts) = lent_checked c.requires (not-false _ c.if-not-checked.false) in
    let l = looked.latest in (l.held, l.some)

pub data_file_is_live-live-requires : goal.data_file_is_live-live-requires
data_file_is_live-live-requires c =
    let looked : (let a = c.args in DeleteChecked a.snapshots.now a.data_files.now a.delete_files.now a.positions.now a.scheduled.now a.counts) = lent_checked c.requires (not-false _ c.if-not-checked.false) in
    looked.data_files

pub uuid_is_free-free-requires : goal.uuid_is_free-free-requires
uuid_is_free-free-requires c =
    let looked : (let a = c.args in DeleteChecked a.snapshots.now a.data_files.now a.delete_files.now a.positions.now a.scheduled.now a.counts) = lent_checked c.requires (not-false _ c.if-not-checked.false) in
    looked.files

pub data_file_of_id-file-requires : goal.data_file_of_id-file-requires
data_file_of_id-file-requires c =
    let looked : (let a = c.args in DeleteChecked a.snapshots.now a.data_files.now a.delete_files.now a.positions.now a.scheduled.now a.counts) = lent_checked c.requires (not-false _ c.if-not-checked.false) in
    looked.data_files

pub positions_deleted-old-requires : goal.positions_deleted-old-requires
positions_deleted-old-requires c =
    let looked : (let a = c.args in DeleteChecked a.snapshots.now a.data_files.now a.delete_files.now a.positions.now a.scheduled.now a.counts) = lent_checked c.requires (not-false _ c.if-not-checked.false) in
    looked.deletes

pub next_snapshot-next-requires : goal.next_snapshot-next-requires
next_snapshot-next-requires c =
    let looked : (let a = c.args in DeleteChecked a.snapshots.now a.data_files.now a.delete_files.now a.positions.now a.scheduled.now a.counts) = lent_checked c.requires (not-false _ c.if-not-checked.false) in
    can_follow looked.latest c.latest_snapshot-latest.ensures (search rules) (search rules)

pub returns : goal.returns
returns c l m =
    let looked : (let a = c.args in DeleteChecked a.snapshots.now a.data_files.now a.delete_files.now a.positions.now a.scheduled.now a.counts) = lent_checked c.requires (not-false _ c.if-not-checked.false) in
    let w = l.words in
    let e = c.latest_snapshot-latest.ensures in
    let f = c.data_file_of_id-file.ensures in
    let s = is_sound_lem w _ l.checked c.if-not-checked.false in
    let old = c.positions_deleted-old.ensures in
    let known = lent_deleted l _ e old in
    commit_judged w _ l.checked s m _ _ (delete_adds_lem _ _ _ _ _) c.first_refused.ensures
    (data_file_live_as w _ l.snapshots e _ l.data_files c.data_file_is_live-live.ensures then λ _.
    time_as w _ l.snapshots e _ c.is_in_time-in_time.ensures then λ _.
    c.uuid_is_free-free.ensures w l.data_files l.delete_files l.scheduled then λ _.
    fit_as w _ _ _ l.data_files f c.positions_fit-fit.ensures then λ is_fit.
    undeleted_as w _ _ _ known c.none_deleted-undeleted.ensures (ap (chained ltb) old ∙ looked.deletes.ascending _ _) _ is_fit then λ _.
    moves_as w _ _ _ l.data_files f l.snapshots e _ _ s (c.snapshot_fits-fits.ensures ∙ ap snapshot_in_range c.next_snapshot-next.ensures) then λ _.
    room_as _ _ c.has_room-room.ensures (adds_as w _ _ c.args.new_positions.now known c.delete_adds-added.ensures refl) then λ _.
    done)
