-- Demand 3: the claim over any list of calls.
use Prim.Native.Nat.{ℕ, ◌+◌, ◌≤◌}
use mathlib.Core.Path.{◌≡◌, refl, sym, ap, ap₂, subst, ◌∙◌}
use mathlib.Core.List.{List, [], ◌∷◌, ◌++◌}
use mathlib.Core.Bool.{Bool, true, false, not, cond, ◌&&◌, ◌||◌, and-true, and-false}
use native.Mathlib.Omega.{arith}
use native.Mathlib.Nat.{zero-add}
use lib.Dec.{leb, ltb, eqb}
use lib.ListN.{length, take}
use borrow.Author.Tests.{eqb-true, le-ltb}
use Rattle.lists.specs.Lists.{range, filter, has, bit, count}
use Rattle.lists.specs.Runs.{overwrite}
use Rattle.lists.proofs.Tests.{if, clash, both}
use Rattle.lists.proofs.Runs.{overwrite_front}
use Rattle.lists.proofs.Counts.{count-append, count_map, count_and, count-filter, count_range}
use Rattle.layout.specs.declared.outcome.Counts.{Counts}
use Rattle.layout.specs.Words.{Words, load, store, counts_of, capacity, within, fits}
use Rattle.layout.proofs.RoundTrip.{load_store, fits_store}
use Rattle.ducklake.specs.Liveness.{latest, latest_id}
use Rattle.ducklake.specs.Soundness.{sound, file_ids}
use Rattle.ducklake.specs.Refusals.{accepted, no_room, not_sound, first}
use Rattle.ducklake.specs.Calls.{Call, commit_at, expire_snapshots, clean_up, call_refusals, effect, answer, has_room, refusal, Result, perform}
use Rattle.ducklake.specs.Claim.{Step, State, is_listed, journal_after, expired_by, file_ids_of, handed_by, time_of, advanced, fallen_between, accepted_step, refused_step, step, run}
use Rattle.ducklake.proofs.facts.Facts.{Sound}
use Rattle.ducklake.proofs.facts.FirstRefusals.{unless_passed, first_zero}
use Rattle.ducklake.proofs.commits.Good.{Chain}
use Rattle.ducklake.proofs.claim.Retained.{Tally}
use Rattle.ducklake.proofs.journal.Journals.{JournalOk}
use Rattle.ducklake.proofs.claim.Listed.{file_listed, falls, entry}
use Rattle.ducklake.proofs.claim.Tables.{named, catalog_of, Tables, listed_is}
use Rattle.ducklake.proofs.claim.Accepted.{numbered_call, refusal_parts, Stays, Moved, moved}

-- an accepted call: its number is 0, and it leaves the stored catalog

pub record Performed (k : Call) (w : Words) (c : Counts) (area : List ℕ) : Type 0 where
  pub judged : first (call_refusals (load w c) k) accepted ≡ 0
  pub room : within (counts_of (effect (load w c) k)) (capacity w) ≡ true
  pub words : (perform k w c area).words ≡ store w c (effect (load w c) k)
  pub counts : (perform k w c area).counts ≡ counts_of (effect (load w c) k)
  pub handed : take (perform k w c area).length (perform k w c area).area ≡ answer (load w c) k

front : (words area : List ℕ) → take (length words) (overwrite area 0 words) ≡ words
front words area = ap (λ n. take n (overwrite area 0 words)) (sym (zero-add (length words))) ∙ overwrite_front area 0 words (omega arith)

refusal_passed : (w : Words) (c : Counts) (n : ℕ) (k : Call) → refusal w c n k ≡ accepted → (first (call_refusals (load w c) k) accepted ≡ 0) × (within (counts_of (effect (load w c) k)) (capacity w) ≡ true)
unfolding has_room
refusal_passed w c n k h =
    let a = unless_passed not_sound (sound w c) _ (omega arith) (sym (refusal_parts w c n k) ∙ h) in
    let b = first_zero (call_refusals (load w c) k) _ (numbered_call (load w c) k) a.1 in
    (b.0, (unless_passed no_room (within (counts_of (effect (load w c) k)) (capacity w)) _ (omega arith) b.1).0)

pub performed : (k : Call) (w : Words) (c : Counts) (area : List ℕ) → eqb (perform k w c area).number accepted ≡ true → Performed k w c area
unfolding perform
performed k w c area h =
    if (eqb (refusal w c (length area) k) accepted)
    (λ b. let p = refusal_passed w c (length area) k (eqb-true _ _ b) in
    record { judged = p.0; room = p.1; words = rw b; counts = rw b; handed = rw b (front (answer (load w c) k) area) })
    (λ b. clash (rw b at h) b)

-- a refused call leaves everything
pub refused_words : (k : Call) (w : Words) (c : Counts) (area : List ℕ) → eqb (perform k w c area).number accepted ≡ false → ((perform k w c area).words ≡ w) × ((perform k w c area).counts ≡ c)
unfolding perform
refused_words k w c area h =
    if (eqb (refusal w c (length area) k) accepted) (λ b. clash refl (rw b at h)) (λ b. (rw b, rw b))

-- what holds after every call
pub record Inv (S : State) : Type 0 where
  pub tables : Tables S
  pub fallen : (k u : ℕ) → count (entry k u) (catalog_of S).scheduled ≡ count (λ x. eqb x.file k && eqb x.time u) S.fallen
  pub files : (k : ℕ) → count (λ i. eqb i k) (file_ids (catalog_of S)) + count (λ i. eqb i k) S.handed ≡ bit (ltb k (latest (catalog_of S)).next_file_id)

-- an accepted call

module _ (S : State) (k : Call) (area : List ℕ) (T : Tables S) (h : eqb (perform k S.words S.counts area).number accepted ≡ true) where
  abbrev made : Result
  made = perform k S.words S.counts area

  abbrev next : State
  next = advanced S k made

  P : Performed k S.words S.counts area
  P = performed k S.words S.counts area h

  pub M : Moved (catalog_of S) k
  M = moved (catalog_of S) T.sound T.chain k P.judged

  -- the tables mean the catalog that the call should leave
  pub next-is : catalog_of next ≡ effect (catalog_of S) k
  next-is =
      ap₂ load P.words P.counts ∙ load_store S.words S.counts (effect (catalog_of S) k) (named M.sound)

  next_fit : fits made.words made.counts ≡ true
  unfolding fits
  next_fit = ap₂ fits P.words P.counts
      ∙ fits_store S.words S.counts (effect (catalog_of S) k) (named M.sound) (both (within S.counts (capacity S.words)) _ T.fit).0 P.room

  pub next_tables : Tables next
  next_tables = record {
    fit = next_fit;
    sound = subst Sound (sym next-is) M.sound;
    chain = subst Chain (sym next-is) M.chain;
    journal = subst (λ C. JournalOk C (journal_after S.journal k)) (sym next-is) (M.journal S.journal T.journal);
    tally = subst (λ C. Tally C (S.expired ++ expired_by k)) (sym next-is) (M.tally S.expired T.tally);
  }

  -- what is handed out is read off the answer
  handed_is : (k : Call) → take (perform k S.words S.counts area).length (perform k S.words S.counts area).area ≡ answer (catalog_of S) k
      → handed_by k (perform k S.words S.counts area) ≡ file_ids_of (answer (catalog_of S) k)
  unfolding answer
  handed_is (commit_at time c) e = refl
  handed_is (expire_snapshots ids time) e = refl
  handed_is (clean_up t) e = ap file_ids_of e

  pub hands : handed_by k made ≡ file_ids_of (answer (catalog_of S) k)
  hands = handed_is k P.handed

  -- what has fallen

  abbrev lost : ℕ → Bool
  lost i = (is_listed S i || leb S.journal.next_file_id i) && not (is_listed next i)

  lost_falls : (i : ℕ) → (ltb i next.journal.next_file_id && lost i) ≡ falls (catalog_of S) (effect (catalog_of S) k) i
  lost_falls i =
      ap₂ ◌&&◌ (ap (ltb i) (next_tables.journal.next_file_id ∙ ap (λ C. (latest C).next_file_id) next-is))
      (ap₂ ◌&&◌ (ap₂ ◌||◌ (listed_is S T i) (ap (λ n. leb n i) T.journal.next_file_id))
      (ap not (listed_is next next_tables i ∙ ap (λ C. file_listed C i) next-is)))

  gone_count : (i u : ℕ) → count (λ x. eqb x.file i && eqb x.time u) (fallen_between S next (time_of k)) ≡ cond (eqb (time_of k) u) (bit (falls (catalog_of S) (effect (catalog_of S) k) i)) 0
  unfolding fallen_between
  gone_count i u =
      count_map (λ x. eqb x.file i && eqb x.time u) (λ j. record { file = j; time = time_of k }) (filter lost (range 0 next.journal.next_file_id))
      ∙ (count_and (λ j. eqb j i) (eqb (time_of k) u) (filter lost (range 0 next.journal.next_file_id))
      ∙ ap (λ n. cond (eqb (time_of k) u) n 0)
      (count-filter (λ j. eqb j i) lost (lost i) (range 0 next.journal.next_file_id) (λ j m q. ap lost (eqb-true j i q))
      ∙ (inner (lost i) ∙ ap bit (lost_falls i))))
    where
      below : count (λ j. eqb j i) (range 0 next.journal.next_file_id) ≡ bit (ltb i next.journal.next_file_id)
      below =
          let a = count_range 0 next.journal.next_file_id i in
          let z : bit (ltb i 0) ≡ 0 = rw (le-ltb i 0 (omega arith)) in
          let y : bit (ltb i (0 + next.journal.next_file_id)) ≡ bit (ltb i next.journal.next_file_id) = rw zero-add in
          omega arith

      inner : (b : Bool) → cond b (count (λ j. eqb j i) (range 0 next.journal.next_file_id)) 0 ≡ bit (ltb i next.journal.next_file_id && b)
      inner true = below ∙ ap bit (sym (and-true (ltb i next.journal.next_file_id)))
      inner false = ap bit (sym (and-false (ltb i next.journal.next_file_id)))

  -- a count through a filter that goes by the file alone
  through : {A : Type 0} (file time : A → ℕ) (i u : ℕ) (hs : List ℕ) (xs : List A)
      → count (λ x. eqb (file x) i && eqb (time x) u) (filter (λ x. not (has (file x) hs)) xs) ≡ cond (not (has i hs)) (count (λ x. eqb (file x) i && eqb (time x) u) xs) 0
  through file time i u hs xs =
      count-filter (λ x. eqb (file x) i && eqb (time x) u) (λ x. not (has (file x) hs)) (not (has i hs)) xs
      (λ x m q. ap (λ j. not (has j hs)) (eqb-true (file x) i (both (eqb (file x) i) (eqb (time x) u) q).0))

  pub next_fallen : ((i u : ℕ) → count (entry i u) (catalog_of S).scheduled ≡ count (λ x. eqb x.file i && eqb x.time u) S.fallen)
      → (i u : ℕ) → count (entry i u) (catalog_of next).scheduled
      ≡ count (λ x. eqb x.file i && eqb x.time u) (filter (λ x. not (has x.file (handed_by k made))) S.fallen ++ fallen_between S next (time_of k))
  next_fallen o i u =
      ap (λ C. count (entry i u) C.scheduled) next-is
      ∙ (M.falls.gains i u
      ∙ (ap₂ ◌+◌ stay (sym (gone_count i u))
      ∙ sym (count-append (λ x. eqb x.file i && eqb x.time u) (filter (λ x. not (has x.file (handed_by k made))) S.fallen) (fallen_between S next (time_of k)))))
    where
      stay : count (entry i u) (filter (λ x. not (has x.file (file_ids_of (answer (catalog_of S) k)))) (catalog_of S).scheduled)
          ≡ count (λ x. eqb x.file i && eqb x.time u) (filter (λ x. not (has x.file (handed_by k made))) S.fallen)
      stay =
          through (λ x. x.file) (λ x. x.start) i u (file_ids_of (answer (catalog_of S) k)) (catalog_of S).scheduled
          ∙ (ap (λ n. cond (not (has i (file_ids_of (answer (catalog_of S) k)))) n 0) (o i u)
          ∙ (sym (through (λ x. x.file) (λ x. x.time) i u (file_ids_of (answer (catalog_of S) k)) S.fallen)
          ∙ ap (λ hs. count (λ x. eqb x.file i && eqb x.time u) (filter (λ x. not (has x.file hs)) S.fallen)) (sym hands)))

  pub next_files : ((i : ℕ) → count (λ j. eqb j i) (file_ids (catalog_of S)) + count (λ j. eqb j i) S.handed ≡ bit (ltb i (latest (catalog_of S)).next_file_id))
      → (i : ℕ) → count (λ j. eqb j i) (file_ids (catalog_of next)) + count (λ j. eqb j i) (S.handed ++ handed_by k made) ≡ bit (ltb i (latest (catalog_of next)).next_file_id)
  next_files o i =
      let a = count-append (λ j. eqb j i) S.handed (handed_by k made) in
      let b = ap (λ hs. count (λ j. eqb j i) hs) hands in
      let c = ap (λ C. count (λ j. eqb j i) (file_ids C)) next-is in
      let e = ap (λ C. bit (ltb i (latest C).next_file_id)) next-is in
      omega (arith, o i, M.counted i)

-- between an earlier state and a later one

pub record Later (S S' : State) : Type 0 where
  pub stays : Stays (catalog_of S) (catalog_of S')

later_refl : (S : State) → Later S S
later_refl S = record { stays = record { later = omega arith; had = λ s r l. r; judged = λ s r l q rest. refl; answered = λ s r l q. refl } }

later_trans : (S S' S'' : State) → Later S S' → Later S' S'' → Later S S''
later_trans S S' S'' p q = record {
  stays = record {
    later = omega (arith, p.stays.later, q.stays.later);
    had = λ s r l. p.stays.had s (q.stays.had s r (up l)) l;
    judged = λ s r l x rest. q.stays.judged s r (up l) x rest ∙ p.stays.judged s (q.stays.had s r (up l)) l x rest;
    answered = λ s r l x. q.stays.answered s r (up l) x ∙ p.stays.answered s (q.stays.had s r (up l)) l x;
  };
}
  where
    up : {s : ℕ} → s ≤ latest_id (catalog_of S) → s ≤ latest_id (catalog_of S')
    up l = omega (arith, p.stays.later)

-- every call, and every list of calls

accepted_inv : (S : State) (k : Call) (area : List ℕ) → Inv S → (h : eqb (perform k S.words S.counts area).number accepted ≡ true)
    → Inv (accepted_step S k (perform k S.words S.counts area)) × Later S (accepted_step S k (perform k S.words S.counts area))
accepted_inv S k area I h =
    let T = next_tables S k area I.tables h in (
      record {
        tables = record { fit = T.fit; sound = T.sound; chain = T.chain; journal = T.journal; tally = T.tally };
        fallen = next_fallen S k area I.tables h I.fallen;
        files = next_files S k area I.tables h I.files;
      },
      record { stays = subst (Stays (catalog_of S)) (sym (next-is S k area I.tables h)) (M S k area I.tables h).stays },
    )

refused_inv : (S : State) (k : Call) (area : List ℕ) → Inv S → eqb (perform k S.words S.counts area).number accepted ≡ false
    → Inv (refused_step S (perform k S.words S.counts area)) × Later S (refused_step S (perform k S.words S.counts area))
refused_inv S k area I h =
    subst (λ X. Inv X × Later S X) (sym same) (I, later_refl S)
  where
    same : refused_step S (perform k S.words S.counts area) ≡ S
    same = λ i. record {
      words = (refused_words k S.words S.counts area h).0 i;
      counts = (refused_words k S.words S.counts area h).1 i;
      journal = S.journal;
      expired = S.expired;
      handed = S.handed;
      fallen = S.fallen;
    }

pub step_inv : (S : State) (x : Step) → Inv S → Inv (step S x) × Later S (step S x)
unfolding step
step_inv S x I =
    if (eqb (perform x.call S.words S.counts x.area).number accepted)
    (λ e. rw e (accepted_inv S x.call x.area I e))
    (λ e. rw e (refused_inv S x.call x.area I e))

pub run_inv : (S : State) (xs : List Step) → Inv S → Inv (run S xs) × Later S (run S xs)
run_inv S [] I = (I, later_refl S)
run_inv S (x ∷ xs) I =
    let p = step_inv S x I in
    let q = run_inv (step S x) xs p.0 in
    (q.0, later_trans S (step S x) (run (step S x) xs) p.1 q.1)
