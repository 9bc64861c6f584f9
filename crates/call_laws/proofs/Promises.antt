-- The promise of a call and of Fresh, refused and accepted: from equations over the number, the place, the counts, the words and the area.
use Prim.Native.Nat.{ℕ}
use mathlib.Core.Path.{◌≡◌, refl, sym, ◌∙◌}
use mathlib.Core.Bool.{true, false}
use mathlib.Core.List.{List, []}
use lib.ListN.{length}
use borrow.Author.Tests.{ne_eqb}
use Rattle.lists.specs.Runs.{overwrite}
use Rattle.lists.proofs.Runs.{overwrite_none}
use Rattle.layout.specs.declared.outcome.Counts.{Counts}
use Rattle.layout.specs.declared.outcome.Outcome.{Outcome}
use Rattle.layout.specs.Words.{Words, load, store, counts_of}
use Rattle.ducklake.specs.Refusals.{accepted, no_room}
use Rattle.ducklake.specs.Commits.{fresh_catalog}
use Rattle.ducklake.specs.Calls.{Call, effect, answer, has_room, refusal, place_zero, place_of, refused, stored, perform, no_counts, perform_fresh, Promise}

-- An outcome
abbrev pub outcome : ℕ → ℕ → ℕ → Counts → Outcome
outcome number place length counts = record { number = number; place = place; length = length; counts = counts }

-- Calls that change tables

module _ (k : Call) (w : Words) (c : Counts) (area : List ℕ) {n : ℕ} (e : n ≡ refusal w c (length area) k) where
  call_refused : (n ≡ 0 → ⊥) → perform k w c area ≡ refused n (place_of (load w c) k n) w c area
  unfolding perform
  call_refused z = rw (← e, ne_eqb n 0 z) refl

  call_accepted : n ≡ 0 → perform k w c area ≡ stored (effect (load w c) k) (answer (load w c) k) w c area
  unfolding perform
  call_accepted z = rw (← e, z) refl

  -- "a refused call changes no word or name of any table, nor the answer area"
  pub promise_refused : {place : ℕ} {w' : Words} {area' : List ℕ} → (n ≡ 0 → ⊥) → place_of (load w c) k n place ≡ true → w' ≡ w → area' ≡ area
      → Promise (perform k w c area) (outcome n place 0 c) w' area'
  promise_refused z p q r = rw (call_refused z) (record { number = refl; place = p; length = refl; counts = refl; words = q; area = r })

  -- an accepted call stores its effect, and its answer stands at the area's front
  pub promise_accepted : {l : ℕ} {c' : Counts} {w' : Words} {area' : List ℕ} → n ≡ 0 → l ≡ length (answer (load w c) k)
      → c' ≡ counts_of (effect (load w c) k) → w' ≡ store w c (effect (load w c) k) → area' ≡ overwrite area 0 (answer (load w c) k)
      → Promise (perform k w c area) (outcome accepted 0 l c') w' area'
  promise_accepted z p q r s = rw (call_accepted z) (record { number = refl; place = refl; length = p; counts = q; words = r; area = s })

  -- of a call without an answer: a commit, an expiry
  pub promise_stored : {c' : Counts} {w' : Words} {area' : List ℕ} → n ≡ 0 → answer (load w c) k ≡ []
      → c' ≡ counts_of (effect (load w c) k) → w' ≡ store w c (effect (load w c) k) → area' ≡ area
      → Promise (perform k w c area) (outcome accepted 0 0 c') w' area'
  promise_stored z a q r s = promise_accepted z (rw a refl) q r (rw a (s ∙ sym (overwrite_none area 0)))

-- Fresh

module _ (time : ℕ) (w : Words) (c : Counts) (area : List ℕ) where
  fresh_refused : has_room w (fresh_catalog time) ≡ false → perform_fresh time w c area ≡ refused no_room place_zero w c area
  unfolding perform_fresh
  fresh_refused h = rw h refl

  fresh_accepted : has_room w (fresh_catalog time) ≡ true → perform_fresh time w c area ≡ stored (fresh_catalog time) [] w no_counts area
  unfolding perform_fresh
  fresh_accepted h = rw h refl

  pub promise_fresh_refused : {w' : Words} {area' : List ℕ} → has_room w (fresh_catalog time) ≡ false → w' ≡ w → area' ≡ area
      → Promise (perform_fresh time w c area) (outcome no_room 0 0 c) w' area'
  promise_fresh_refused h p q = rw (fresh_refused h) (record { number = refl; place = refl; length = refl; counts = refl; words = p; area = q })

  pub promise_fresh_accepted : {c' : Counts} {w' : Words} {area' : List ℕ} → has_room w (fresh_catalog time) ≡ true → c' ≡ counts_of (fresh_catalog time)
      → w' ≡ store w no_counts (fresh_catalog time) → area' ≡ area → Promise (perform_fresh time w c area) (outcome accepted 0 0 c') w' area'
  promise_fresh_accepted h p q r =
      rw (fresh_accepted h) (record { number = refl; place = refl; length = refl; counts = p; words = q; area = r ∙ sym (overwrite_none area 0) })
