-- `insert_rows` keeps the promise: refused it leaves all as it was, accepted its writes are the effect and its counts those of the effect.
use mathlib.Core.Path.{refl, ap, ◌∙◌}
use Rattle.layout.proofs.Refusals.{not_accepted}
use Rattle.ducklake.specs.Calls.{place_of}
use Rattle.call_laws.specs.Writes.{add_counts}
use Rattle.call_laws.proofs.CommitCounts.{insert_adds_lem}
use Rattle.call_laws.proofs.CommitPromises.{commit_accepted}
use Rattle.call_laws.proofs.Promises.{promise_refused}
use Rattle.call_laws.proofs.Refusals.{accepted_call}
use Rattle.refusals.proofs.Laws.{few_after, few_as}
use Rattle.row_insertion.proofs.Lent.{lent_checked, lent_judged, lent_relies, leaves_all}
use Rattle.row_insertion.proofs.insert.insert_rows.Goals as goal

pub refuse_insert-requires : goal.refuse_insert-requires
refuse_insert-requires c =
    lent_checked c.requires

pub returns-in-Err : goal.returns-in-Err
unfolding place_of
returns-in-Err c l area =
    rw c.refused.ensures (promise_refused _ _ _ _ (lent_judged l _ c.in-Err.ensures _) (not_accepted _) refl (leaves_all l) refl)

pub write_insert-requires : goal.write_insert-requires
write_insert-requires c =
    lent_relies c.requires 0 _ _ _ _ _ (accepted_call _ _ 0 _ (lent_judged c.requires _ c.in_default.ensures 0) refl)

pub counts_after-after-requires : goal.counts_after-after-requires
counts_after-after-requires c =
    few_as _ c.insert_adds-added.ensures (few_after _ _ 0 _ _ (insert_adds_lem _ _ _ _ _ _) (accepted_call _ _ 0 _ (lent_judged c.requires _ c.in_default.ensures 0) refl))

pub returns : goal.returns
returns c l area =
    rw c.accepted.ensures (commit_accepted _ _ _ _ _ (lent_judged l _ c.in_default.ensures) refl (insert_adds_lem _ _ _ _ _ _)
    (c.counts_after-after.ensures ∙ ap (add_counts _) c.insert_adds-added.ensures) (λ f. c.write_insert.ensures _ f l.snapshots l.tables l.data_files l.statistics))
