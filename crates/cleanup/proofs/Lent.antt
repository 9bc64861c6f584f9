-- The tables that a cleanup is lent: from the check of all runs to what its parts rely on, and to its promise.
use Prim.Native.Nat.{ℕ, ◌*◌, ◌≤◌}
use mathlib.Core.Path.{◌≡◌, refl, ap, ◌∙◌}
use mathlib.Core.Bool.{true, not}
use mathlib.Core.List.{List}
use native.Mathlib.Omega.{arith}
use lib.ListN.{length}
use Rattle.lists.specs.Runs.{overwrite}
use Rattle.lists.specs.Pieces.{row_pieces, Compacted}
use Rattle.lists.proofs.Compaction.{rows_count}
use Rattle.layout.specs.declared.outcome.Counts.{Counts}
use Rattle.layout.specs.Fields.{scheduled_size}
use Rattle.layout.specs.Words.{Words, scheduled_at}
use Rattle.ducklake.specs.Maintenance.{due}
use Rattle.ducklake.specs.Refusals.{accepted}
use Rattle.ducklake.specs.Calls.{clean_up, effect, answer, refusal, place_of, perform, Promise}
use Rattle.call_laws.proofs.Cleanup.{with_scheduled, handed_words_lem, cleanup_words, cleanup_counts}
use Rattle.call_laws.proofs.Promises.{outcome, promise_refused, promise_accepted}
use Rattle.call_laws.proofs.Ready.{Ready, ready}
use Rattle.call_laws.proofs.Refusals.{AcceptedCall, accepted_call}
use Rattle.refusals.specs.declared.checked.Checked.{Checked}
use Rattle.refusals.specs.Checked.{checked_of}
use Rattle.refusals.proofs.Laws.{checked_ready}
use Rattle.cleanup.specs.Handed.{ScheduledLent, words_due, Handed, stays_at}
use Rattle.cleanup.specs.Lent.{CleanupLent, cleanup_leaves}

abbrev pub cleanup_lent : (w : Words) (c : Counts) {checked : Checked} → checked ≡ checked_of w c → CleanupLent checked w.scheduled c
cleanup_lent w c e = record { words = w; scheduled = refl; checked = e }

module _ {checked : Checked} {xs : List ℕ} {c : Counts} (l : CleanupLent checked xs c) where
  ready_lent : Ready l.words c → ScheduledLent xs c.scheduled
  ready_lent R = record { held = rw (← l.scheduled) R.held.scheduled; few = omega (arith, R.few.scheduled) }

  pub scheduled_lent_lem : checked.sound ≡ true → ScheduledLent xs c.scheduled
  scheduled_lent_lem h = ready_lent (checked_ready l.words c l.checked h)

  module _ (m t : ℕ) {n : ℕ} (judged : (w : Words) → w.scheduled ≡ xs → checked ≡ checked_of w c → n ≡ refusal w c m (clean_up t)) where
    number : n ≡ refusal l.words c m (clean_up t)
    number = judged l.words l.scheduled l.checked

    -- an accepted cleanup has room for its answer
    pub due_lent : n ≡ 0 → ScheduledLent xs c.scheduled × (length (words_due xs c.scheduled t) ≤ m)
    unfolding answer
    due_lent z =
        let A : AcceptedCall l.words c m (clean_up t) = accepted_call l.words c m (clean_up t) number z in
        (ready_lent (ready l.words c A.sound), rw (← l.scheduled, handed_words_lem l.words c t) A.area)

  module _ (t : ℕ) (area : List ℕ) {n : ℕ} (judged : (w : Words) → w.scheduled ≡ xs → checked ≡ checked_of w c → n ≡ refusal w c (length area) (clean_up t)) where
    pub cleanup_refused : (n ≡ 0 → ⊥) → Promise (perform (clean_up t) l.words c area) (outcome n 0 0 c) (cleanup_leaves l.words xs) area
    unfolding place_of
    cleanup_refused z = promise_refused (clean_up t) l.words c area (number (length area) t judged) z refl (rw (← l.scheduled) refl) refl

    pub cleanup_done : {r k : ℕ} {xs' area' : List ℕ} → n ≡ 0 → Handed xs c.scheduled t area r area'
        → Compacted (row_pieces scheduled_size) (stays_at xs t) c.scheduled xs (scheduled_size * k) xs'
        → Promise (perform (clean_up t) l.words c area)
        (outcome accepted 0 r (with_scheduled c k)) (cleanup_leaves l.words xs') area'
    unfolding effect answer
    cleanup_done {r} {k} {xs'} {area'} z h d =
        let w : Words = l.words in
        let e : Handed w.scheduled c.scheduled t area r area' = rw l.scheduled h in
        let s : Compacted (row_pieces scheduled_size) (stays_at w.scheduled t) c.scheduled w.scheduled (scheduled_size * k) xs' = rw l.scheduled d in
        let f = (accepted_call w c (length area) (clean_up t) (number (length area) t judged) z).fits in
        promise_accepted (clean_up t) w c area (number (length area) t judged) z (e.length ∙ ap length (handed_words_lem w c t))
        (cleanup_counts w c t f (rows_count scheduled_size k (λ x. not (due t x)) (stays_at w.scheduled t) (scheduled_at w.scheduled) c.scheduled (omega arith) (λ j m. refl) s))
        (cleanup_words w c t f (stays_at w.scheduled t) (λ j m. refl) s) (e.words ∙ ap (overwrite area 0) (handed_words_lem w c t))
