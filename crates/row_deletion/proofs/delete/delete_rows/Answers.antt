-- `delete_rows` keeps the promise: refused it leaves all as it was and gives a right place, accepted its writes are the effect and its counts those of the effect.
use mathlib.Core.Path.{refl, sym, ap, ◌∙◌}
use Rattle.layout.proofs.Refusals.{not_accepted}
use Rattle.call_laws.specs.Writes.{add_counts}
use Rattle.call_laws.proofs.CommitCounts.{delete_adds_lem}
use Rattle.call_laws.proofs.CommitPromises.{commit_accepted}
use Rattle.call_laws.proofs.Promises.{promise_refused}
use Rattle.call_laws.proofs.Refusals.{accepted_call}
use Rattle.refusals.proofs.Laws.{few_after, few_as}
use Rattle.row_deletion.proofs.Judges.{adds_as, offence, place_right}
use Rattle.row_deletion.proofs.Lent.{lent_deleted, lent_sought, lent_relies, leaves_all}
use Rattle.row_deletion.proofs.delete.delete_rows.Goals as goal

pub refused_place-place-requires : goal.refused_place-place-requires
refused_place-place-requires c z =
    let l = c.requires in
    lent_sought l _ _ (offence l.words _ 0 _ _ _ _ (c.in-Err.ensures l 0) (sym c.number-number.ensures ∙ z))

pub returns-in-Err : goal.returns-in-Err
returns-in-Err c l area =
    let n = c.in-Err.ensures l in
    rw c.refused.ensures
    (promise_refused _ _ _ _ (n _) (not_accepted _) (place_right l.words _ 0 _ _ _ _ (n 0) (lent_deleted l _ refl refl) (rw c.number-number.ensures at c.refused_place-place.ensures)) (leaves_all l) refl)

pub write_delete-count-requires : goal.write_delete-count-requires
write_delete-count-requires c =
    let l = c.requires in
    lent_relies l 0 _ _ _ _ (accepted_call _ _ 0 _ (c.in_default.ensures l 0) refl)

pub counts_after-after-requires : goal.counts_after-after-requires
counts_after-after-requires c =
    let l = c.requires in
    few_as _ (adds_as l.words _ _ c.args.new_positions.now (lent_deleted l _ refl refl) c.delete_adds-added.ensures c.write_delete-count.ensures.0)
    (few_after _ _ 0 _ _ (delete_adds_lem _ _ _ _ _) (accepted_call _ _ 0 _ (c.in_default.ensures l 0) refl))

pub returns : goal.returns
returns c l area =
    rw c.accepted.ensures (commit_accepted _ _ _ _ _ (c.in_default.ensures l) refl (delete_adds_lem _ _ _ _ _)
    (c.counts_after-after.ensures ∙ ap (add_counts _) (adds_as l.words _ _ c.args.new_positions.now (lent_deleted l _ refl refl) c.delete_adds-added.ensures c.write_delete-count.ensures.0))
    (λ f. c.write_delete-count.ensures.1 _ f l.snapshots l.data_files l.delete_files l.positions))
