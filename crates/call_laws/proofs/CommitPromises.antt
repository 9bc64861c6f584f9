-- The promise of a commit, refused and accepted, from what its judge and its writer ensure.
use Prim.Native.Nat.{ℕ}
use mathlib.Core.Path.{◌≡◌, refl}
use mathlib.Core.Bool.{true}
use mathlib.Core.List.{List}
use lib.ListN.{length}
use Rattle.layout.specs.declared.outcome.Counts.{Counts}
use Rattle.layout.specs.declared.outcome.Terms.{Terms}
use Rattle.layout.specs.Words.{Words, load, store, counts_of, fits}
use Rattle.ducklake.specs.Commits.{Commit, change_of, additions}
use Rattle.ducklake.specs.Refusals.{accepted}
use Rattle.ducklake.specs.Calls.{commit_at, effect, refusal, perform, Promise}
use Rattle.call_laws.specs.Writes.{add_counts}
use Rattle.call_laws.proofs.Commits.{promise_commit}
use Rattle.call_laws.proofs.Promises.{outcome}
use Rattle.call_laws.proofs.Refusals.{accepted_call}

module _ (w : Words) (c : Counts) (terms : Terms) (k : Commit) (area : List ℕ) {n : ℕ} (judged : (m : ℕ) → n ≡ refusal w c m (commit_at terms k)) where
  pub commit_accepted : {added c' : Counts} {w' : Words} → n ≡ 0 → counts_of (additions (load w c) (change_of (load w c) terms.time k)) ≡ added → c' ≡ add_counts c added
      → (fits w c ≡ true → w' ≡ store w c (effect (load w c) (commit_at terms k))) → Promise (perform (commit_at terms k) w c area) (outcome accepted 0 0 c') w' area
  commit_accepted z adds counts words =
      let f = (accepted_call w c 0 (commit_at terms k) (judged 0) z).fits in
      promise_commit w c f terms k adds area (judged (length area)) z counts (words f) refl
