-- Demand 3: one claim about any list of calls from a fresh catalogue.
use Rattle.std.specs.Prelude.{ℕ, suc, ◌+◌, ◌≤◌, ◌<◌, ◌≡◌, Bool, true, false, not, cond, ◌&&◌, ◌||◌, List, [], ◌∷◌, ◌++◌, map, leb, ltb, eqb, length, take, replicate}
use Rattle.lists.specs.Lists.{range, any, filter, has, bit, count}
use Rattle.layout.specs.declared.outcome.Counts.{Counts}
use Rattle.layout.specs.Catalog.{absent, number_limit}
use Rattle.layout.specs.Words.{Words, load}
use Rattle.ducklake.specs.Liveness.{retained}
use Rattle.ducklake.specs.Refusals.{accepted, short_answer_area, id_of_table, no_such_id, refuse_unless}
use Rattle.ducklake.specs.Readings.{Query, files, rows, query_answer}
use Rattle.ducklake.specs.Calls.{Call, commit_at, expire_snapshots, clean_up, Result, perform, perform_fresh, query_at, perform_reading}
use Rattle.ducklake.specs.Journal.{TableRows, Journal, empty_journal, journaled}

-- "each is on the same tables, with arguments and an answer area of its own"
pub record Step : Type 0 where
  pub call : Call
  pub area : List ℕ

-- a file that fell out of every list, and the time of the call after which it did
pub record Fallen : Type 0 where
  pub file : ℕ
  pub time : ℕ

-- the tables, "the record the last call handed back", and what the calls alone tell: the row journal, the snapshots that accepted expiries named, the
-- files that accepted cleanups handed out, and the files that no retained snapshot lists any more, with the times
pub record State : Type 0 where
  pub words : Words
  pub counts : Counts
  pub journal : Journal
  pub expired : List ℕ
  pub handed : List ℕ
  pub fallen : List Fallen

-- "a retained snapshot, one that no accepted expiry has named"
abbrev pub is_retained : State → ℕ → Bool
is_retained S s = leb s S.journal.latest && not (has s S.expired)

-- a reading: its number and, if it is accepted, its answer
pub record Answer : Type 0 where
  pub number : ℕ
  pub words : List ℕ

abbrev pub answer_of : Result → Answer
answer_of r = record { number = r.number; words = take r.length r.area }

-- "readings given room for their answers": an area as long as the answer
unfoldable pub reading_of : Words → Counts → ℕ → Query → Answer
reading_of w c s q = answer_of (perform_reading (query_at s q) w c (replicate (length (query_answer (load w c) s q)) 0))

-- "in the file list of some table at a retained snapshot": of the tables that the journal knows; no other has a file list (`Holds`)
unfoldable pub is_listed : State → ℕ → Bool
is_listed S k =
    any (λ s. is_retained S s && any (λ table. eqb (reading_of S.words S.counts s (files table)).number accepted
    && has k (reading_of S.words S.counts s (files table)).words) (range 0 S.journal.next_catalog_id))
    (range 0 (suc S.journal.latest))

-- what an accepted call tells, from its arguments and its answer

abbrev pub journal_after : Journal → Call → Journal
journal_after J (commit_at terms k) = journaled J k
journal_after J (expire_snapshots ids time) = J
journal_after J (clean_up t) = J

abbrev pub expired_by : Call → List ℕ
expired_by (commit_at terms k) = []
expired_by (expire_snapshots ids time) = ids
expired_by (clean_up t) = []

-- the ids among words of which each file has three
abbrev pub file_ids_of : List ℕ → List ℕ
file_ids_of [] = []
file_ids_of (k ∷ []) = []
file_ids_of (k ∷ (h ∷ [])) = []
file_ids_of (k ∷ (h ∷ (l ∷ rest))) = k ∷ file_ids_of rest

-- "handed out by an accepted cleanup": read off its answer area
abbrev pub handed_by : Call → Result → List ℕ
handed_by (commit_at terms k) r = []
handed_by (expire_snapshots ids time) r = []
handed_by (clean_up t) r = file_ids_of (take r.length r.area)

abbrev pub time_of : Call → ℕ
time_of (commit_at terms k) = terms.time
time_of (expire_snapshots ids time) = time
time_of (clean_up t) = t

-- the state after an accepted call, but for what has fallen
abbrev pub advanced : State → Call → Result → State
advanced S k r = record {
  words = r.words;
  counts = r.counts;
  journal = journal_after S.journal k;
  expired = S.expired ++ expired_by k;
  handed = S.handed ++ handed_by k r;
  fallen = S.fallen;
}

-- the files that S' lists nowhere and that S lists or has not registered yet: S' is the first state at which no retained snapshot lists them
unfoldable pub fallen_between : State → State → ℕ → List Fallen
fallen_between S S' time =
    map (λ k. record { file = k; time = time })
    (filter (λ k. (is_listed S k || leb S.journal.next_file_id k) && not (is_listed S' k)) (range 0 S'.journal.next_file_id))

-- "A file is scheduled from the first accepted call, of time u, after which no retained snapshot lists it, until it is handed out"
abbrev pub accepted_step : State → Call → Result → State
accepted_step S k r =
    let S' : State = advanced S k r in
    record {
      words = S'.words;
      counts = S'.counts;
      journal = S'.journal;
      expired = S'.expired;
      handed = S'.handed;
      fallen = filter (λ x. not (has x.file (handed_by k r))) S.fallen ++ fallen_between S S' (time_of k);
    }

-- a refused call leaves what it leaves, and tells nothing; a reading likewise
abbrev pub refused_step : State → Result → State
refused_step S r = record {
  words = r.words;
  counts = r.counts;
  journal = S.journal;
  expired = S.expired;
  handed = S.handed;
  fallen = S.fallen;
}

unfoldable pub step : State → Step → State
step S x =
    let r : Result = perform x.call S.words S.counts x.area in
    cond (eqb r.number accepted) (accepted_step S x.call r) (refused_step S r)

-- "Take any list of commits, expiries and cleanups, refused ones too"
abbrev pub run : State → List Step → State
run S [] = S
run S (x ∷ xs) = run (step S x) xs

-- "from a fresh catalogue"
unfoldable pub fresh_state : ℕ → Words → Counts → List ℕ → State
fresh_state time w c area = record {
  words = (perform_fresh time w c area).words;
  counts = (perform_fresh time w c area).counts;
  journal = empty_journal;
  expired = [];
  handed = [];
  fallen = [];
}

-- S is a state on the way, S' the state after further calls
pub record Holds (S S' : State) : Type 0 where
  -- "readings given room for their answers": on an area with room for the answer no reading is refused with 3, and each gives the same; on a shorter one it
  -- is refused with 3. A reading that is refused for another reason has no answer, and any area has room for it.
  pub with_room : (s : ℕ) (q : Query) (area : List ℕ) → length (reading_of S'.words S'.counts s q).words ≤ length area
      → ((perform_reading (query_at s q) S'.words S'.counts area).number ≡ short_answer_area → ⊥)
      × (answer_of (perform_reading (query_at s q) S'.words S'.counts area) ≡ reading_of S'.words S'.counts s q)
  pub without_room : (s : ℕ) (q : Query) (area : List ℕ) → length area < length (reading_of S'.words S'.counts s q).words
      → (perform_reading (query_at s q) S'.words S'.counts area).number ≡ short_answer_area
  -- "Every reading at a retained snapshot (..) is accepted exactly when it was straight after the call that made the snapshot, and if accepted
  -- answers the same": straight after that call, and at every state from there on at which the snapshot is retained
  pub readings_stay : (s : ℕ) (q : Query) → is_retained S s ≡ true → is_retained S' s ≡ true
      → reading_of S'.words S'.counts s q ≡ reading_of S.words S.counts s q
  -- the tables hold just the retained snapshots
  pub tables_retain : (s : ℕ) → retained (load S'.words S'.counts).snapshots s ≡ is_retained S' s
  -- "The rows of each table on page s of document 01's row book, read at a retained snapshot s, are exactly those on the page, in its order; those of
  -- any other table are refused."
  pub rows_as_journaled : (s table : ℕ) → is_retained S' s ≡ true
      → reading_of S'.words S'.counts s (rows table)
      ≡ (let t : TableRows = S'.journal.page s table in
      record { number = refuse_unless (no_such_id (load S'.words S'.counts) id_of_table table) t.present accepted; words = cond t.present t.rows [] })
  -- the file list of a table on the page is accepted, and that of any other, of whatever id, is refused with 6
  pub file_lists_as_journaled : (s table : ℕ) → is_retained S' s ≡ true
      → (reading_of S'.words S'.counts s (files table)).number
      ≡ refuse_unless (no_such_id (load S'.words S'.counts) id_of_table table) (S'.journal.page s table).present accepted
  -- so "the file list of some table" is that of a table that the journal knows
  pub listed_anywhere : (s table k : ℕ) → is_retained S' s ≡ true → (reading_of S'.words S'.counts s (files table)).number ≡ accepted
      → has k (reading_of S'.words S'.counts s (files table)).words ≡ true → is_listed S' k ≡ true
  -- "Ids, next ids, (..) are at most 2^62": the files ever registered are those below the next file id, so none has the number ABSENT
  pub file_ids_in_limit : S'.journal.next_file_id ≤ number_limit
  -- "Every file ever registered is exactly one of these: in the file list of some table at a retained snapshot, scheduled, or handed out by an accepted
  -- cleanup. None is handed out twice, and none that a retained snapshot lists, then or later." No other number is any of these. ABSENT is no file where it
  -- stands in a file list: "the second the delete file's id or ABSENT".
  pub files_placed : (k : ℕ)
      → bit (is_listed S' k && not (eqb k absent)) + count (λ x. eqb x.file k) (load S'.words S'.counts).scheduled + count (λ i. eqb i k) S'.handed
      ≡ bit (ltb k S'.journal.next_file_id)
  -- "the scheduled table holds just these, once each, with u"
  pub scheduled_as_fallen : (k u : ℕ)
      → count (λ x. eqb x.file k && eqb x.start u) (load S'.words S'.counts).scheduled
      ≡ count (λ x. eqb x.file k && eqb x.time u) S'.fallen

-- "Take any list (..) from a fresh catalogue": whatever the tables held, whatever the counts given to Fresh
abbrev pub Claim : Type 0
Claim =
    (time : ℕ) (w : Words) (c : Counts) (area : List ℕ) → (perform_fresh time w c area).number ≡ accepted
    → (xs ys : List Step) → Holds (run (fresh_state time w c area) xs) (run (run (fresh_state time w c area) xs) ys)

-- Demand 3's own words: "straight after the call that made the snapshot". A call makes one snapshot at most, so that state is the first on the way at which
-- snapshot s is made.
abbrev pub when_made : State → List Step → ℕ → State
when_made S [] s = S
when_made S (x ∷ xs) s = cond (leb s S.journal.latest) S (when_made (step S x) xs s)

-- S₁ is the state straight after the call that made s, S a later one at which s is retained: "Every reading at a retained snapshot (..) is accepted exactly
-- when it was straight after the call that made the snapshot, and if accepted answers the same."
pub record SinceMade (S₁ S : State) (s : ℕ) : Type 0 where
  pub made : S₁.journal.latest ≡ s
  pub retained_then : is_retained S₁ s ≡ true
  pub accepted_when : (q : Query) → (reading_of S.words S.counts s q).number ≡ (reading_of S₁.words S₁.counts s q).number
  pub same_answer : (q : Query) → (reading_of S.words S.counts s q).words ≡ (reading_of S₁.words S₁.counts s q).words

abbrev pub SinceMadeClaim : Type 0
SinceMadeClaim =
    (time : ℕ) (w : Words) (c : Counts) (area : List ℕ) → (perform_fresh time w c area).number ≡ accepted
    → (xs : List Step) (s : ℕ) → is_retained (run (fresh_state time w c area) xs) s ≡ true
    → SinceMade (when_made (fresh_state time w c area) xs s) (run (fresh_state time w c area) xs) s

-- "None is handed out twice, and none that a retained snapshot lists, then or later.": S is a state on the way, S' the state after further calls
pub record HandedOut (S S' : State) : Type 0 where
  pub once : (k : ℕ) → count (λ i. eqb i k) S'.handed ≤ 1
  pub not_listed : (k : ℕ) → has k S.handed ≡ true → is_listed S' k ≡ false

abbrev pub HandedOutClaim : Type 0
HandedOutClaim =
    (time : ℕ) (w : Words) (c : Counts) (area : List ℕ) → (perform_fresh time w c area).number ≡ accepted
    → (xs ys : List Step) → HandedOut (run (fresh_state time w c area) xs) (run (run (fresh_state time w c area) xs) ys)
