-- Demand 3 as the caller sees it: from what came back of each call and reading, each having kept its promise. Any catalogue that keeps the promises has it.
use Rattle.std.specs.Prelude.{ℕ, ◌≡◌, true, cond, List, [], ◌∷◌, leb, eqb, take}
use Rattle.lists.specs.Lists.{has}
use Rattle.layout.specs.declared.outcome.Counts.{Counts}
use Rattle.layout.specs.declared.outcome.Outcome.{Outcome}
use Rattle.layout.specs.Words.{Words, load}
use Rattle.ducklake.specs.Refusals.{accepted, short_answer_area, id_of_table, no_such_id, refuse_unless}
use Rattle.ducklake.specs.Readings.{Query, files, rows}
use Rattle.ducklake.specs.Calls.{Call, Result, place_zero, perform, perform_fresh, Reading, query_at, perform_reading, Promise}
use Rattle.ducklake.specs.Lookup.{perform_lookup}
use Rattle.ducklake.specs.Journal.{TableRows, empty_journal}
use Rattle.ducklake.specs.Claim.{State, is_retained, Answer, is_listed, accepted_step, refused_step, Holds}

-- a call, a reading, or the file lookup as a call
pub data Request : Type 0 where
  calls : Call → Request
  reads : Reading → Request
  looks_up : (file : ℕ) → Request

abbrev pub perform_request : Request → Words → Counts → List ℕ → Result
perform_request (calls k) = perform k
perform_request (reads r) = perform_reading r
perform_request (looks_up file) = perform_lookup file

-- what is seen of a request: the area that it was given, its outcome, and the tables and the area as it left them
pub record Observation : Type 0 where
  pub request : Request
  pub area : List ℕ
  pub outcome : Outcome
  pub words : Words
  pub area_left : List ℕ

abbrev pub came_back : Observation → Result
came_back x = record {
  number = x.outcome.number;
  place = place_zero;
  length = x.outcome.length;
  counts = x.outcome.counts;
  words = x.words;
  area = x.area_left;
}

-- the state that the caller is in then: of a reading and of the lookup the tables and the record as they came back, and nothing told
abbrev pub after : State → Request → Result → State
after S (calls k) r = cond (eqb r.number accepted) (accepted_step S k r) (refused_step S r)
after S (reads q) r = refused_step S r
after S (looks_up file) r = refused_step S r

abbrev pub after_all : State → List Observation → State
after_all S [] = S
after_all S (x ∷ xs) = after_all (after S x.request (came_back x)) xs

-- each request was made on what the one before left, and kept its promise
abbrev pub Kept : State → List Observation → Type 0
Kept S [] = Unit {0}
Kept S (x ∷ xs) =
    Promise (perform_request x.request S.words S.counts x.area) x.outcome x.words x.area_left
    × Kept (after S x.request (came_back x)) xs

-- what Fresh left
abbrev pub started : Outcome → Words → State
started o w = record { words = w; counts = o.counts; journal = empty_journal; expired = []; handed = []; fallen = [] }

-- a reading at snapshot s that is seen in a state, given room for its answer, its promise kept
pub record Reads (S : State) (s : ℕ) (q : Query) : Type 0 where
  pub area : List ℕ
  pub outcome : Outcome
  pub words : Words
  pub area_left : List ℕ
  pub kept : Promise (perform_reading (query_at s q) S.words S.counts area) outcome words area_left
  pub room : outcome.number ≡ short_answer_area → ⊥

-- its number, and the words at the area's front
abbrev pub given : {S : State} {s : ℕ} {q : Query} → Reads S s q → Answer
given x = record { number = x.outcome.number; words = take x.outcome.length x.area_left }

-- S is a state on the way, S' the state after further requests
pub record Seen (S S' : State) : Type 0 where
  pub holds : Holds S S'
  -- "Every reading at a retained snapshot (..) is accepted exactly when it was (..), and if accepted answers the same"
  pub readings_stay : (s : ℕ) (q : Query) → is_retained S s ≡ true → is_retained S' s ≡ true → (x : Reads S s q) (x' : Reads S' s q) → given x' ≡ given x
  -- "The rows of each table on page s (..) are exactly those on the page, in its order; those of any other table are refused."
  pub rows_as_journaled : (s table : ℕ) → is_retained S' s ≡ true → (x : Reads S' s (rows table))
      → given x
      ≡ (let t : TableRows = S'.journal.page s table in
      record { number = refuse_unless (no_such_id (load S'.words S'.counts) id_of_table table) t.present accepted; words = cond t.present t.rows [] })
  -- "in the file list of some table at a retained snapshot": a file list that is seen to hold a file, and one that will be seen to
  pub seen_listed : (s table k : ℕ) → is_retained S' s ≡ true → (x : Reads S' s (files table)) → (given x).number ≡ accepted → has k (given x).words ≡ true
      → is_listed S' k ≡ true
  pub listed_seen : (k : ℕ) → is_listed S' k ≡ true
      → (s : ℕ) × (table : ℕ) × (is_retained S' s ≡ true)
      × ((x : Reads S' s (files table)) → ((given x).number ≡ accepted) × (has k (given x).words ≡ true))

-- the first state on the way at which snapshot s is made
abbrev pub seen_made : State → List Observation → ℕ → State
seen_made S [] s = S
seen_made S (x ∷ xs) s = cond (leb s S.journal.latest) S (seen_made (after S x.request (came_back x)) xs s)

-- "straight after the call that made the snapshot", and at the end
abbrev pub SeenSinceMade : State → List Observation → Type 0
SeenSinceMade S xs =
    (s : ℕ) (q : Query) → is_retained (after_all S xs) s ≡ true
    → (x : Reads (seen_made S xs s) s q) (x' : Reads (after_all S xs) s q) → given x' ≡ given x

abbrev pub ObservedClaim : Type 0
ObservedClaim =
    (time : ℕ) (w : Words) (c : Counts) (area : List ℕ) (o : Outcome) (w' : Words) (area_left : List ℕ)
    → Promise (perform_fresh time w c area) o w' area_left → o.number ≡ accepted
    → (xs ys : List Observation) → Kept (started o w') xs → Kept (after_all (started o w') xs) ys
    → Seen (after_all (started o w') xs) (after_all (after_all (started o w') xs) ys) × SeenSinceMade (started o w') xs
