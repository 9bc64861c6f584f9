-- The check of the tables, Fresh, and the part that the lookup hands back: from each one's own statement.
use Rattle.std.specs.Prelude.{Ok}
use Prim.Native.Nat.{ℕ}
use mathlib.Core.Path.{◌≡◌, refl, sym, ap, ◌∙◌}
use mathlib.Core.Bool.{true}
use mathlib.Core.List.{List, [], ◌++◌, append-nil}
use native.Mathlib.Omega.{arith}
use native.Mathlib.Nat.{zero-add}
use lib.Dec.{leb, eqb}
use lib.ListN.{length}
use lib.Seq.{drop-length}
use borrow.Author.Tests.{le-leb, eqb-true, eq-eqb}
use contract.Monad.{fact_mono}
use denote.Ref.{Bor}
use Rattle.lists.specs.Runs.{overwrite}
use Rattle.lists.proofs.Tests.{if, clash}
use Rattle.layout.specs.declared.outcome.Counts.{Counts}
use Rattle.layout.specs.Words.{Words, load}
use Rattle.ducklake.specs.Soundness.{sound, first_unsound}
use Rattle.ducklake.specs.Refusals.{accepted, not_live, refuse_unless}
use Rattle.ducklake.specs.Calls.{Promise}
use Rattle.ducklake.specs.Lookup.{FilePlace, in_data_files, in_delete_files, nowhere, place_of_file, is_somewhere, lookup, LiesAt, LookupPromise, perform_lookup}
use Rattle.ducklake.specs.Observed.{looks_up}
use Rattle.ducklake.proofs.claim.Observed.{observed}
use Rattle.readings.specs.Answers.{Answered}
use Rattle.file_lookup.proofs.Places.{copy_refused, copy_answered}
use Rattle.observed_calls.specs.Seen.{words_in, words_read, besides, Enters, Starts}
use Rattle.observed_calls.proofs.Contracts.{Fact, Ensuring, follows, enters}
use Rattle.catalog_check.specs.contracts.line.catalog_first_unsound as first_unsound_call
use Rattle.catalog_check.proofs.line.catalog_first_unsound.Statement as first_unsound_stated
use Rattle.catalog_check.proofs.line.catalog_first_unsound.Met as first_unsound_met
use Rattle.catalog_check.proofs.line.catalog_first_unsound.Symbol as first_unsound_symbol
use Rattle.catalog_fresh.specs.contracts.fresh.catalog_fresh as fresh
use Rattle.catalog_fresh.proofs.fresh.catalog_fresh.Statement as fresh_stated
use Rattle.catalog_fresh.proofs.fresh.catalog_fresh.Met as fresh_met
use Rattle.catalog_fresh.proofs.fresh.catalog_fresh.Symbol as fresh_symbol
use Rattle.catalog_readings.specs.contracts.file.catalog_find_file as find_file_call
use Rattle.catalog_readings.proofs.file.catalog_find_file.Statement as find_file_stated
use Rattle.catalog_readings.proofs.file.catalog_find_file.Met as find_file_met
use Rattle.catalog_readings.proofs.file.catalog_find_file.Symbol as find_file_symbol

-- `catalog_first_unsound`
abbrev pub FirstUnsound : Fact first_unsound_call.ended
FirstUnsound κs a r s = r ≡ first_unsound (words_read a) (besides a).0

pub first_unsound_tells : {M : Type 1} → Ensuring {M = M} first_unsound_call.ended (λ 𝓤 𝓛. first_unsound_call.clauses 𝓛) first_unsound_symbol.code first_unsound_symbol.name FirstUnsound
first_unsound_tells {M} =
    let met : first_unsound_stated.statement M = first_unsound_met.met in
    follows first_unsound_call.ended (λ 𝓤 𝓛. first_unsound_call.clauses 𝓛) first_unsound_symbol.code first_unsound_symbol.name FirstUnsound (λ 𝓤 𝓛 mem run κs a g r s. fact_mono 𝓤 _ _ (λ p. p)) met

-- `catalog_fresh`
abbrev pub FreshStarts : Fact fresh.ended
FreshStarts κs a r s = let (counts, (time, (area, end))) = besides a in Starts time (words_in a) counts area.now r (words_in s) (besides s).1.1.0.now

pub fresh_starts : {M : Type 1} → Ensuring {M = M} fresh.ended (λ 𝓤 𝓛. fresh.clauses 𝓛) fresh_symbol.code fresh_symbol.name FreshStarts
fresh_starts {M} =
    let met : fresh_stated.statement M = fresh_met.met in
    follows fresh.ended (λ 𝓤 𝓛. fresh.clauses 𝓛) fresh_symbol.code fresh_symbol.name FreshStarts (λ 𝓤 𝓛 mem run κs a g r s. fact_mono 𝓤 _ _ (λ p. record { promise = p; claim = observed _ _ _ _ _ _ _ p })) met

-- `catalog_find_file`: the part is the answer that the lookup as a call gives on an area as long as it
abbrev pub FindFileEnters : Fact find_file_call.ended
FindFileEnters κs a r s =
    let (counts, (id, (number, end))) = besides a in
    Enters (looks_up id.0) (words_read a) counts r.now (record { number = (besides s).1.1.0.now; place = 0; length = length r.now; counts = counts }) (words_read a) r.now

module _ (w : Words) (c : Counts) (k : ℕ) (a b part : Bor (List ℕ)) (e : w.data_files ≡ a.now) (f : w.delete_files ≡ b.now) {n : ℕ} (l : LookupPromise (lookup w c k) a b part n) where
  none_there : (n ≡ 0 → ⊥) → part.now ≡ []
  unfolding lookup
  none_there z = if (sound w c) (λ h. at (place_of_file (load w c) k) (rw h at l.number) (rw h at l.part)) (λ h. rw h at l.part)
    where
      at : (p : FilePlace) → n ≡ refuse_unless not_live (is_somewhere p) accepted → LiesAt a b part p → part.now ≡ []
      at (in_data_files i) q m = absurd (z q)
      at (in_delete_files i) q m = absurd (z q)
      at nowhere q m = m

  over_itself : (xs : List ℕ) → Answered xs xs (Ok (length xs)) xs
  unfolding overwrite
  over_itself xs =
      let h : leb (length xs) (length xs) ≡ true = le-leb (length xs) (length xs) (omega arith) in
      let all : overwrite xs 0 xs ≡ xs = ap (λ (ys : List ℕ). xs ++ ys) (rw zero-add (drop-length xs)) ∙ append-nil xs in
      record { number = rw h refl; count = rw h refl; left = rw h (sym all) }

  found-is : Promise (perform_lookup k w c part.now) (record { number = n; place = 0; length = length part.now; counts = c }) w part.now
  found-is =
      if (eqb n 0)
      (λ h. let z = eqb-true n 0 h in rw z (copy_answered w c k a b e f part.now (rw z at l) (over_itself part.now)))
      (λ h. let z : n ≡ 0 → ⊥ = λ q. clash (eq-eqb n 0 q) h in
      rw (ap length (none_there z)) (copy_refused w c k part.now l.number z))

pub find_file_enters : {M : Type 1} → Ensuring {M = M} find_file_call.ended (λ 𝓤 𝓛. find_file_call.clauses 𝓛) find_file_symbol.code find_file_symbol.name FindFileEnters
find_file_enters {M} =
    let met : find_file_stated.statement M = find_file_met.met in
    follows find_file_call.ended (λ 𝓤 𝓛. find_file_call.clauses 𝓛) find_file_symbol.code find_file_symbol.name FindFileEnters (λ 𝓤 𝓛 mem run κs a g r s. fact_mono 𝓤 _ _ (λ p. enters (found-is _ _ _ _ _ _ refl refl p))) met
