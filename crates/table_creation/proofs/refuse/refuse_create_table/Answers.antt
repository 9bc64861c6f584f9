-- `refuse_create_table` meets its contract: its tests, in the definition's order.
use borrow.Author.Rules.{rules}
use mathlib.Core.Path.{ap, ◌∙◌}
use borrow.Author.Tests.{not-false}
use Rattle.ducklake.specs.Soundness.{snapshot_in_range}
use Rattle.call_laws.proofs.CommitCounts.{create_table_adds}
use Rattle.commits.proofs.Judged.{time_as, schema_live_as, table_name_as}
use Rattle.commits.proofs.Room.{can_follow}
use Rattle.refusals.proofs.Laws.{is_sound_lem, room_as, unsound}
use Rattle.refusals.proofs.Tests.{◌then◌, done, commit_judged}
use Rattle.table_creation.proofs.Judged.{table_numbers_as}
use Rattle.table_creation.proofs.refuse.refuse_create_table.Goals as goal

pub returns-then-not-checked : goal.returns-then-not-checked
returns-then-not-checked c w p q r s k m = unsound w _ k m _ c.if-not-checked.true

pub latest_snapshot-latest-requires : goal.latest_snapshot-latest-requires
latest_snapshot-latest-requires c =
    let l = (c.requires (not-false _ c.if-not-checked.false)).latest in
    (l.held, l.some)

pub schema_is_live-live-requires : goal.schema_is_live-live-requires
schema_is_live-live-requires c =
    (c.requires (not-false _ c.if-not-checked.false)).schemas

pub table_name_is_free-free-requires : goal.table_name_is_free-free-requires
table_name_is_free-free-requires c =
    (c.requires (not-false _ c.if-not-checked.false)).tables

pub next_snapshot-next-requires : goal.next_snapshot-next-requires
next_snapshot-next-requires c =
    can_follow (c.requires (not-false _ c.if-not-checked.false)).latest c.latest_snapshot-latest.ensures (search rules) (search rules)

pub returns : goal.returns
returns c w p q r s k m =
    let l = c.latest_snapshot-latest.ensures in
    let is = is_sound_lem w _ k c.if-not-checked.false in
    commit_judged w _ k is m _ _ (create_table_adds _ _ _ _ _ _) c.first_refused.ensures
    (schema_live_as w _ p l _ q (c.schema_is_live-live.ensures w.schema_names) then λ _.
    time_as w _ p l _ c.is_in_time-in_time.ensures then λ _.
    c.is_name_argument-named.ensures then λ _.
    table_name_as w _ p l _ _ r s c.table_name_is_free-free.ensures then λ _.
    c.columns_fit-formed.ensures _ then λ _.
    table_numbers_as w _ p l is _ _ _ _ _ (c.snapshot_fits-fits.ensures ∙ ap snapshot_in_range c.next_snapshot-next.ensures) then λ _.
    room_as _ _ c.has_room-room.ensures c.table_added-added.ensures then λ _.
    done)
