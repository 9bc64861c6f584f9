-- `refuse_drop_table` meets its contract: its tests, folded in the definition's order.
use borrow.Author.Rules.{rules}
use mathlib.Core.Path.{refl, ap, ◌∙◌}
use borrow.Author.Tests.{not-false}
use Rattle.ducklake.specs.Soundness.{snapshot_in_range}
use Rattle.ducklake.specs.Commits.{change_of}
use Rattle.call_laws.proofs.CommitCounts.{drop_table_adds}
use Rattle.commits.proofs.Judged.{time_as, table_live_as, numbers_as}
use Rattle.commits.proofs.Room.{can_follow}
use Rattle.refusals.proofs.Laws.{is_sound_lem, unsound}
use Rattle.refusals.proofs.Tests.{◌then◌, done, commit_judged}
use Rattle.drops.proofs.refuse.refuse_drop_table.Goals as goal

pub returns-then-not-checked : goal.returns-then-not-checked
returns-then-not-checked c w p q k m = unsound w _ k m _ c.if-not-checked.true

pub latest_snapshot-latest-requires : goal.latest_snapshot-latest-requires
latest_snapshot-latest-requires c =
    let l = (c.requires (not-false _ c.if-not-checked.false)).latest in
    (l.held, l.some)

pub table_is_live-live-requires : goal.table_is_live-live-requires
table_is_live-live-requires c =
    (c.requires (not-false _ c.if-not-checked.false)).tables

pub next_snapshot-next-requires : goal.next_snapshot-next-requires
next_snapshot-next-requires c =
    can_follow (c.requires (not-false _ c.if-not-checked.false)).latest c.latest_snapshot-latest.ensures (search rules) (search rules)

pub returns : goal.returns
unfolding change_of
returns c w p q k m =
    let l = c.latest_snapshot-latest.ensures in
    let s = is_sound_lem w _ k c.if-not-checked.false in
    commit_judged w _ k s m _ _ (drop_table_adds _ _ _) c.first_refused.ensures
    (table_live_as w _ p l _ q (c.table_is_live-live.ensures w.table_names) then λ _.
    time_as w _ p l _ c.is_in_time-in_time.ensures then λ _.
    numbers_as w _ p l _ 0 0 s (λ t. refl) refl refl (c.snapshot_fits-fits.ensures ∙ ap snapshot_in_range c.next_snapshot-next.ensures) then λ _.
    c.has_room-room.ensures then λ _.
    done)
