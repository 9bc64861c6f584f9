-- Demand 3 in its own words: latest snapshots rise one at a time, so the first state that has s is the one straight after the call that made it; and what was
-- handed out stays handed out, where a file has one place alone.
use Prim.Native.Nat.{ℕ, suc, ◌≤◌, ◌<◌}
use mathlib.Core.Path.{◌≡◌, refl, ap, sym, ◌∙◌}
use mathlib.Core.List.{List, [], ◌∷◌}
use mathlib.Core.Bool.{true, not, ◌&&◌}
use native.Mathlib.Omega.{arith}
use lib.Dec.{leb, ltb, eqb}
use borrow.Author.Tests.{leb-true, leb-false, ltb-true, eq-eqb, ne_eqb}
use Rattle.lists.specs.Lists.{has, bit, count}
use Rattle.lists.proofs.Tests.{if, both}
use Rattle.lists.proofs.Members.{reflects_has}
use Rattle.lists.proofs.Counts.{count-append, count-pos, bit_le}
use Rattle.layout.specs.Catalog.{absent}
use Rattle.ducklake.specs.Refusals.{accepted}
use Rattle.ducklake.specs.Commits.{Commit, create_schema, create_table, insert, delete, drop_table, drop_schema}
use Rattle.ducklake.specs.Readings.{Query}
use Rattle.ducklake.specs.Calls.{Call, commit_at, expire_snapshots, clean_up, Result, perform}
use Rattle.ducklake.specs.Journal.{Journal, journaled, empty_journal}
use Rattle.ducklake.specs.Claim.{State, Step, is_retained, reading_of, is_listed, handed_by, accepted_step, step, run, fresh_state, when_made, SinceMade, SinceMadeClaim, HandedOutClaim}
use Rattle.ducklake.proofs.claim.Tables.{retained_is}
use Rattle.ducklake.proofs.claim.Histories.{Inv, Later, step_inv, run_inv}
use Rattle.ducklake.proofs.claim.Whole.{fresh_inv, readings_stay_lem, file_ids_in_limit_lem, files_placed_lem}

-- a snapshot that both states have and the later one retains shows the same in both
pub stays_from : (S S' : State) → Inv S → Inv S' → Later S S' → (s : ℕ) → s ≤ S.journal.latest → is_retained S' s ≡ true
    → (is_retained S s ≡ true) × ((q : Query) → reading_of S'.words S'.counts s q ≡ reading_of S.words S.counts s q)
stays_from S S' I I' L s l h =
    let r = sym (retained_is I.tables s) ∙ L.stays.had s (retained_is I'.tables s ∙ h) (omega (arith, I.tables.journal.now)) in
    (r, λ q. readings_stay_lem S S' I I' L s q r h)

-- the latest snapshot rises by one at most

journaled_latest : (J : Journal) (k : Commit) → (journaled J k).latest ≡ suc J.latest
unfolding journaled
journaled_latest J (create_schema name) = refl
journaled_latest J (create_table schema name columns names) = refl
journaled_latest J (insert table rows uuid statistics) = refl
journaled_latest J (delete file uuid positions) = refl
journaled_latest J (drop_table table) = refl
journaled_latest J (drop_schema schema) = refl

accepted_latest : (S : State) (k : Call) (r : Result) → (accepted_step S k r).journal.latest ≤ suc S.journal.latest
accepted_latest S (commit_at time k) r = omega (arith, journaled_latest S.journal k)
accepted_latest S (expire_snapshots ids time) r = omega arith
accepted_latest S (clean_up t) r = omega arith

step_latest : (S : State) (x : Step) → (step S x).journal.latest ≤ suc S.journal.latest
unfolding step
step_latest S x =
    let r : Result = perform x.call S.words S.counts x.area in
    if (eqb r.number accepted) (λ b. rw b (accepted_latest S x.call r)) (λ b. rw b (omega arith))

since : (S : State) → Inv S → (xs : List Step) (s : ℕ) → S.journal.latest ≤ s → is_retained (run S xs) s ≡ true → SinceMade (when_made S xs s) (run S xs) s
since S I [] s l h =
    let g = leb-true s S.journal.latest (both (leb s S.journal.latest) (not (has s S.expired)) h).0 in
    record { made = omega arith; retained_then = h; accepted_when = λ q. refl; same_answer = λ q. refl }
since S I (x ∷ xs) s l h =
    if (leb s S.journal.latest)
    (λ b. let p = run_inv S (x ∷ xs) I in
    let g = leb-true s S.journal.latest b in
    let e = stays_from S (run S (x ∷ xs)) I p.0 p.1 s g h in
    rw b (record { made = omega arith; retained_then = e.0; accepted_when = λ q. ap (λ a. a.number) (e.1 q); same_answer = λ q. ap (λ a. a.words) (e.1 q) }))
    (λ b. let g = leb-false s S.journal.latest b in
    rw b (since (step S x) (step_inv S x I).0 xs s (omega (arith, step_latest S x)) h))

pub since_made_lem : SinceMadeClaim
unfolding fresh_state empty_journal
since_made_lem time w c area f xs s h = since (fresh_state time w c area) (fresh_inv time w c area f) xs s (omega arith) h

-- what is handed out stays so

accepted_handed : (S : State) (k : Call) (r : Result) (i : ℕ) → count (λ j. eqb j i) S.handed ≤ count (λ j. eqb j i) (accepted_step S k r).handed
accepted_handed S k r i = omega (arith, count-append (λ j. eqb j i) S.handed (handed_by k r))

step_handed : (S : State) (x : Step) (i : ℕ) → count (λ j. eqb j i) S.handed ≤ count (λ j. eqb j i) (step S x).handed
unfolding step
step_handed S x i =
    let r : Result = perform x.call S.words S.counts x.area in
    if (eqb r.number accepted) (λ b. rw b (accepted_handed S x.call r i)) (λ b. rw b (omega arith))

handed_grows : (S : State) (xs : List Step) (i : ℕ) → count (λ j. eqb j i) S.handed ≤ count (λ j. eqb j i) (run S xs).handed
handed_grows S [] i = omega arith
handed_grows S (x ∷ xs) i = omega (arith, step_handed S x i, handed_grows (step S x) xs i)

pub handed_out : HandedOutClaim
handed_out time w c area f xs ys = record {
  once = λ k. omega (arith, files_placed_lem S' I' k, bit_le (ltb k S'.journal.next_file_id));
  not_listed = λ k m.
      let a : 1 ≤ count (λ j. eqb j k) S.handed = count-pos (λ j. eqb j k) ((reflects_has k S.handed).to m) (eq-eqb k k refl) in
      let p = files_placed_lem S' I' k in
      let registered : k < S'.journal.next_file_id = if (ltb k S'.journal.next_file_id) (λ b. ltb-true k _ b)
      (λ b. let z : bit (ltb k S'.journal.next_file_id) ≡ 0 = rw b refl in absurd (omega (arith, handed_grows S ys k))) in
      if (is_listed S' k)
      (λ b. let z : bit (is_listed S' k && not (eqb k absent)) ≡ 1 = rw (b, ne_eqb k absent (λ e. omega (arith, file_ids_in_limit_lem S' I'))) in
      absurd (omega (arith, handed_grows S ys k, bit_le (ltb k S'.journal.next_file_id))))
      (λ b. b);
}
  where
    S : State
    S = run (fresh_state time w c area) xs

    S' : State
    S' = run S ys

    I' : Inv S'
    I' = (run_inv S ys (run_inv (fresh_state time w c area) xs (fresh_inv time w c area f)).0).0
