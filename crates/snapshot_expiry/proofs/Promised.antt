-- The promise of an expiry, refused and accepted, from what its judge and its writer ensure.
use Prim.Native.Nat.{ℕ}
use mathlib.Core.Path.{◌≡◌, refl, sym, ◌∙◌}
use mathlib.Core.List.{List}
use lib.ListN.{length}
use Rattle.layout.specs.declared.outcome.Counts.{Counts}
use Rattle.layout.specs.Words.{Words}
use Rattle.ducklake.specs.Refusals.{accepted}
use Rattle.ducklake.specs.Calls.{expire_snapshots, answer, refusal, place_of, perform, Promise}
use Rattle.call_laws.proofs.Promises.{outcome, promise_refused, promise_stored}
use Rattle.refusals.specs.declared.checked.Checked.{Checked}
use Rattle.refusals.specs.Checked.{checked_of}
use Rattle.snapshot_expiry.proofs.Effects.{NotRefused, ExpiryWritten}

module _ (w : Words) (c : Counts) (ids : List ℕ) (time : ℕ) {checked : Checked} {n : ℕ} (e : checked ≡ checked_of w c)
    (judged : (v : Words) → v.snapshots ≡ w.snapshots → v.data_files ≡ w.data_files → v.delete_files ≡ w.delete_files → checked ≡ checked_of v c
    → (m time : ℕ) → n ≡ refusal v c m (expire_snapshots ids time)) where
  number : (m : ℕ) → n ≡ refusal w c m (expire_snapshots ids time)
  number m = judged w refl refl refl e m time

  pub not_refused : n ≡ 0 → NotRefused w c ids time
  not_refused z = sym z ∙ number 0

  module _ (area : List ℕ) where
    pub expiry_refused : (n ≡ 0 → ⊥) → Promise (perform (expire_snapshots ids time) w c area) (outcome n 0 0 c) w area
    unfolding place_of
    expiry_refused z = promise_refused (expire_snapshots ids time) w c area (number (length area)) z refl refl refl

    pub expiry_accepted : {c' : Counts} {w' : Words} → n ≡ 0 → ExpiryWritten w c ids time c' w' → Promise (perform (expire_snapshots ids time) w c area) (outcome accepted 0 0 c') w' area
    unfolding answer
    expiry_accepted z d = promise_stored (expire_snapshots ids time) w c area (number (length area)) z refl d.counts d.words refl
