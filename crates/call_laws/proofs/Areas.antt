-- What is left in an answer area: an accepted answer has room there, a refused one has no words, and the area stays as long as it was.
use Prim.Native.Nat.{ℕ, ◌≤◌}
use mathlib.Core.Path.{◌≡◌, refl, ap}
use mathlib.Core.List.{List, []}
use native.Mathlib.Omega.{arith}
use lib.Dec.{leb, eqb}
use lib.ListN.{length}
use borrow.Author.Tests.{eqb-true, leb-true}
use Rattle.lists.proofs.Runs.{overwrite_length}
use Rattle.lists.proofs.Tests.{if}
use Rattle.layout.specs.declared.outcome.Counts.{Counts}
use Rattle.layout.specs.declared.outcome.Outcome.{Outcome}
use Rattle.layout.specs.Words.{Words, load}
use Rattle.ducklake.specs.Soundness.{sound}
use Rattle.ducklake.specs.Refusals.{accepted, not_sound, short_answer_area, id_of_file, no_such_id}
use Rattle.ducklake.specs.Commits.{fresh_catalog}
use Rattle.ducklake.specs.Calls.{Call, refusal, has_room, Result, perform, perform_fresh, Reading, reading_refusal, perform_reading, Promise}
use Rattle.ducklake.specs.Lookup.{is_somewhere, place_of_file, lookup_answer, lookup_refusal, perform_lookup}
use Rattle.ducklake.specs.Observed.{Request, calls, reads, looks_up, perform_request}
use Rattle.ducklake.proofs.facts.FirstRefusals.{unless_passed}
use Rattle.call_laws.proofs.Refusals.{accepted_call, reading_fits}

pub record Fits (r : Result) (given : List ℕ) : Type 0 where
  pub answer : r.length ≤ length given
  pub area : length r.area ≡ length given

call_area : (k : Call) (w : Words) (c : Counts) (area : List ℕ) → Fits (perform k w c area) area
unfolding perform
call_area k w c area =
    if (eqb (refusal w c (length area) k) accepted)
    (λ e. let l = (accepted_call w c (length area) k refl (eqb-true _ _ e)).area in rw e (record { answer = l; area = overwrite_length area 0 _ (omega (arith, l)) }))
    (λ e. rw e (record { answer = omega arith; area = refl }))

pub reading_area : (r : Reading) (w : Words) (c : Counts) (area : List ℕ) → Fits (perform_reading r w c area) area
unfolding perform_reading
reading_area r w c area =
    if (eqb (reading_refusal w c (length area) r) accepted)
    (λ e. let l = reading_fits w c (length area) r (eqb-true _ _ e) in rw e (record { answer = l; area = overwrite_length area 0 _ (omega (arith, l)) }))
    (λ e. rw e (record { answer = omega arith; area = refl }))

lookup_fits : (w : Words) (c : Counts) (m k : ℕ) → lookup_refusal w c m k ≡ accepted → length (lookup_answer w c k) ≤ m
unfolding lookup_refusal
lookup_fits w c m k z =
    let a = unless_passed not_sound (sound w c) _ (omega arith) z in
    let b = unless_passed (no_such_id (load w c) id_of_file k) (is_somewhere (place_of_file (load w c) k)) _ (omega arith) a.1 in
    leb-true _ _ (unless_passed short_answer_area (leb (length (lookup_answer w c k)) m) accepted (omega arith) b.1).0

lookup_area : (k : ℕ) (w : Words) (c : Counts) (area : List ℕ) → Fits (perform_lookup k w c area) area
unfolding perform_lookup
lookup_area k w c area =
    if (eqb (lookup_refusal w c (length area) k) accepted)
    (λ e. let l = lookup_fits w c (length area) k (eqb-true _ _ e) in rw e (record { answer = l; area = overwrite_length area 0 _ (omega (arith, l)) }))
    (λ e. rw e (record { answer = omega arith; area = refl }))

pub fresh_area : (time : ℕ) (w : Words) (c : Counts) (area : List ℕ) → Fits (perform_fresh time w c area) area
unfolding perform_fresh
fresh_area time w c area =
    if (has_room w (fresh_catalog time))
    (λ e. rw e (record { answer = omega arith; area = overwrite_length area 0 [] (omega arith) }))
    (λ e. rw e (record { answer = omega arith; area = refl }))

pub request_area : (q : Request) (w : Words) (c : Counts) (area : List ℕ) → Fits (perform_request q w c area) area
request_area (calls k) w c area = call_area k w c area
request_area (reads r) w c area = reading_area r w c area
request_area (looks_up file) w c area = lookup_area file w c area

-- the same of what came back
pub outcome_fits : {r : Result} {area : List ℕ} → Fits r area → {o : Outcome} {w' : Words} {area' : List ℕ} → Promise r o w' area' → o.length ≤ length area'
outcome_fits f p = omega (arith, f.answer, f.area, p.length, ap length p.area)
