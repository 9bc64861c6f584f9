-- `latest_id_by` meets its contract: unsound tables, no snapshot by then, or the id of the one that is found, which is the answer.
use mathlib.Core.Path.{refl, sym, ap, ◌∙◌}
use Rattle.lists.proofs.Runs.{record_fits}
use Rattle.layout.specs.Fields.{snapshot_size}
use Rattle.refusals.proofs.Laws.{is_sound_lem, reading_unsound}
use Rattle.refusals.proofs.Tests.{◌then◌, done, reading_judged}
use Rattle.readings.proofs.Found.{snapshots_by_id, snapshots_by_time_lem}
use Rattle.listings.proofs.Answers.{by_time_answer, by_time_as}
use Rattle.listings.proofs.time.latest_id_by.Goals as goal

pub returns-then-not-checked : goal.returns-then-not-checked
returns-then-not-checked c =
    record { refusal = λ l. reading_unsound _ _ l.checked _ c.if-not-checked.true; id = λ l. tt }

pub latest_by-requires : goal.latest_by-requires
latest_by-requires c =
    let l = c.requires in
    let h = is_sound_lem _ _ l.checked c.if-not-checked.false in
    (snapshots_by_id _ _ h l.snapshots, snapshots_by_time_lem _ _ h l.snapshots)

pub snapshot_id-requires : goal.snapshot_id-requires
snapshot_id-requires c =
    let l = c.requires in
    record_fits snapshot_size c.in-Some.ensures.0 (snapshots_by_id _ _ (is_sound_lem _ _ l.checked c.if-not-checked.false) l.snapshots).lent

pub returns-in-Some : goal.returns-in-Some
returns-in-Some c =
    record {
      refusal = λ l. reading_judged l.words _ (is_sound_lem _ _ l.checked c.if-not-checked.false) _ refl (by_time_as _ _ _ l.snapshots (sym c.in-Some.ensures.1) then λ _. done);
      id = λ l. by_time_answer _ _ _ l.snapshots (ap (λ k. k.0) c.snapshot_id.ensures ∙ sym c.in-Some.ensures.2);
    }

pub returns-in-None : goal.returns-in-None
returns-in-None c =
    record {
      refusal = λ l. reading_judged l.words _ (is_sound_lem _ _ l.checked c.if-not-checked.false) _ refl (by_time_as _ _ _ l.snapshots (sym c.in-None.ensures) then λ _. done);
      id = λ l. tt;
    }
