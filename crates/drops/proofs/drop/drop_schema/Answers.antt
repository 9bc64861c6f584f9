-- `drop_schema` keeps the promise: refused it leaves all as it was, accepted its writes are the effect and its counts those of the effect.
use mathlib.Core.Path.{refl}
use Rattle.layout.proofs.Refusals.{not_accepted}
use Rattle.ducklake.specs.Calls.{place_of}
use Rattle.call_laws.proofs.CommitCounts.{drop_schema_adds}
use Rattle.call_laws.proofs.CommitPromises.{commit_accepted}
use Rattle.call_laws.proofs.Promises.{promise_refused}
use Rattle.call_laws.proofs.Refusals.{accepted_call}
use Rattle.refusals.proofs.Laws.{few_after}
use Rattle.drops.proofs.Lent.{drop_schema_checked, drop_schema_judged, drop_schema_relies, drop_schema_leaves_lem}
use Rattle.drops.proofs.drop.drop_schema.Goals as goal

pub refuse_drop_schema-requires : goal.refuse_drop_schema-requires
refuse_drop_schema-requires c =
    drop_schema_checked c.requires

pub returns-in-Err : goal.returns-in-Err
unfolding place_of
returns-in-Err c l area =
    rw c.refused.ensures (promise_refused _ _ _ _ (drop_schema_judged l _ c.in-Err.ensures _) (not_accepted _) refl (drop_schema_leaves_lem l) refl)

pub write_drop_schema-requires : goal.write_drop_schema-requires
write_drop_schema-requires c =
    drop_schema_relies c.requires 0 _ _ (accepted_call _ _ 0 _ (drop_schema_judged c.requires _ c.in_default.ensures 0) refl)

pub counts_after-after-requires : goal.counts_after-after-requires
counts_after-after-requires c =
    few_after _ _ 0 _ _ (drop_schema_adds _ _ _) (accepted_call _ _ 0 _ (drop_schema_judged c.requires _ c.in_default.ensures 0) refl)

pub returns : goal.returns
returns c l area =
    rw c.accepted.ensures (commit_accepted _ _ _ _ _ (drop_schema_judged l _ c.in_default.ensures) refl (drop_schema_adds _ _ _) c.counts_after-after.ensures
    (λ f. c.write_drop_schema.ensures _ f l.snapshots l.schemas))
