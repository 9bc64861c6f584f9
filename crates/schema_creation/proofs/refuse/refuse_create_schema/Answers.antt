-- `refuse_create_schema` meets its contract: its tests, folded in the definition's order.
use borrow.Author.Rules.{rules}
use mathlib.Core.Path.{ap, ◌∙◌}
use borrow.Author.Tests.{not-false}
use Rattle.ducklake.specs.Soundness.{snapshot_in_range}
use Rattle.call_laws.proofs.CommitCounts.{create_schema_adds}
use Rattle.commits.proofs.Judged.{time_as, schema_name_as}
use Rattle.commits.proofs.Room.{can_follow}
use Rattle.refusals.proofs.Laws.{is_sound_lem, unsound}
use Rattle.refusals.proofs.Tests.{◌then◌, done, commit_judged}
use Rattle.schema_creation.proofs.Effects.{create_schema_numbers}
use Rattle.schema_creation.proofs.refuse.refuse_create_schema.Goals as goal

pub returns-then-not-checked : goal.returns-then-not-checked
returns-then-not-checked c w p q r k m = unsound w _ k m _ c.if-not-checked.true

pub latest_snapshot-latest-requires : goal.latest_snapshot-latest-requires
latest_snapshot-latest-requires c =
    let l = (c.requires (not-false _ c.if-not-checked.false)).0 in
    (l.held, l.some)

pub schema_name_is_free-free-requires : goal.schema_name_is_free-free-requires
schema_name_is_free-free-requires c =
    (c.requires (not-false _ c.if-not-checked.false)).1

pub next_snapshot-next-requires : goal.next_snapshot-next-requires
next_snapshot-next-requires c =
    can_follow (c.requires (not-false _ c.if-not-checked.false)).0 c.latest_snapshot-latest.ensures (search rules) (search rules)

pub returns : goal.returns
returns c w p q r k m =
    let l = c.latest_snapshot-latest.ensures in
    let s = is_sound_lem w _ k c.if-not-checked.false in
    commit_judged w _ k s m _ _ (create_schema_adds _ _ _) c.first_refused.ensures
    (time_as w _ p l _ c.is_in_time-in_time.ensures then λ _.
    c.is_name_argument-named.ensures then λ _.
    schema_name_as w _ p l _ q r c.schema_name_is_free-free.ensures then λ _.
    create_schema_numbers w _ p l _ _ s (c.snapshot_fits-fits.ensures ∙ ap snapshot_in_range c.next_snapshot-next.ensures) then λ _.
    c.has_room-room.ensures then λ _.
    done)
