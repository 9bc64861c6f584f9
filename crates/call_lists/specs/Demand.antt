-- Demand 3 of lists that were played, from what is left in their caller's runs: the tables, the answer area, and the words that tell the outcomes.
use Rattle.std.specs.Prelude.{ℕ, suc, ◌+◌, ◌*◌, ◌<◌, ◌≤◌, ◌≡◌, true, cond, List, [], map, get_or, take, drop}
use Rattle.lists.specs.Lists.{range, sum}
use Rattle.layout.specs.declared.outcome.Counts.{Counts}
use Rattle.layout.specs.declared.outcome.Outcome.{Outcome}
use Rattle.layout.specs.Words.{Words, load}
use Rattle.ducklake.specs.Refusals.{accepted, short_answer_area, id_of_table, no_such_id, refuse_unless}
use Rattle.ducklake.specs.Readings.{Query}
use Rattle.ducklake.specs.Calls.{perform_fresh, query_at, Promise}
use Rattle.ducklake.specs.Journal.{TableRows}
use Rattle.ducklake.specs.Claim.{State, is_retained, Answer}
use Rattle.ducklake.specs.Observed.{Request, reads, Observation, after_all, Kept, started, Reads, given, Seen, SeenSinceMade}
use Rattle.call_lists.specs.declared.outcome.Session.{Session}
use Rattle.call_lists.specs.Records.{call_at}
use Rattle.call_lists.specs.Calls.{request_of}
use Rattle.call_lists.specs.Playing.{Played, left, told_size, played}

-- what is told of record i
module _ (t : List ℕ) (i : ℕ) where
  abbrev pub number_told : ℕ
  number_told = get_or t (told_size * i) 0

  abbrev pub place_told : ℕ
  place_told = get_or t (told_size * i + 1) 0

  abbrev pub length_told : ℕ
  length_told = get_or t (told_size * i + 2) 0

-- its answer in the area: behind the answers before it
unfoldable pub answer_start : List ℕ → ℕ → ℕ
answer_start t i = sum (map (length_told t) (range 0 i))

abbrev pub answer_at : List ℕ → List ℕ → ℕ → Answer
answer_at t a i = record { number = number_told t i; words = take (length_told t i) (drop (answer_start t i) a) }

module _ (calls lists names : List ℕ) (w : Words) (c : Counts) (a t' : List ℕ) where
  abbrev played_by : ℕ → Played
  played_by = played calls lists names w c a

  abbrev pub request : ℕ → Request
  request i = request_of lists names (call_at calls i)

  abbrev pub outcome_told : ℕ → Outcome
  outcome_told i = record { number = number_told t' i; place = place_told t' i; length = length_told t' i; counts = (played_by (suc i)).counts }

  -- what is seen of record i: its outcome as told, the tables and the area as it left them
  abbrev pub observation : ℕ → Observation
  observation i = record {
    request = request i;
    area = left (played_by i);
    outcome = outcome_told i;
    words = (played_by (suc i)).words;
    area_left = drop (played_by i).answered (played_by (suc i)).area;
  }

  -- of n records from i on
  abbrev pub observations : ℕ → ℕ → List Observation
  observations i n = map observation (range i n)

  -- A list of n records in a history that has come to S: it goes on from there, each request having kept its promise, to what the list leaves
  pub record ListKept (S : State) (n : ℕ) (s : Session) (w' : Words) (a' : List ℕ) : Type 0 where
    pub kept : Kept S (observations 0 n)
    pub words : (after_all S (observations 0 n)).words ≡ w'
    pub counts : (after_all S (observations 0 n)).counts ≡ s.counts
    -- each answer stands in the area as it was given
    pub answers : (i : ℕ) → i < n → take (length_told t' i) (observation i).area_left ≡ (answer_at t' a' i).words

  -- A list whose first record is Fresh, accepted, and n records behind it: the state that Fresh left, and that after i of these
  abbrev pub state_made : State
  state_made = started (outcome_told 0) (played_by 1).words

  abbrev pub state_after : ℕ → State
  state_after i = after_all state_made (observations 1 i)

  pub record ListClaim (n : ℕ) (s : Session) (w' : Words) (a' : List ℕ) : Type 0 where
    -- Fresh kept its promise, and so did each behind it; what the list leaves is the last of these states
    pub begun : Promise (perform_fresh (call_at calls 0).time w c a) (outcome_told 0) (played_by 1).words (observation 0).area_left
    pub kept : Kept state_made (observations 1 n)
    pub words : (state_after n).words ≡ w'
    pub counts : (state_after n).counts ≡ s.counts
    -- demand 3 of any two of them, and since each snapshot was made
    pub seen : (i k : ℕ) → i + k ≤ n → Seen (state_after i) (state_after (i + k))
    pub since_made : (i : ℕ) → i ≤ n → SeenSinceMade state_made (observations 1 i)
    -- the answer of a reading that is one of these records stands in the area, and is that of a reading of the state then
    pub reading : (i s : ℕ) (q : Query) → i < n → request (suc i) ≡ reads (query_at s q) → (number_told t' (suc i) ≡ short_answer_area → ⊥)
        → (x : Reads (state_after i) s q) × (given x ≡ answer_at t' a' (suc i))
    -- "Every reading at a retained snapshot (..) is accepted exactly when it was (..), and if accepted answers the same"
    pub readings_stay : (i k s : ℕ) (q : Query) → i + k < n → request (suc i) ≡ reads (query_at s q) → request (suc (i + k)) ≡ reads (query_at s q)
        → is_retained (state_after i) s ≡ true → is_retained (state_after (i + k)) s ≡ true
        → (number_told t' (suc i) ≡ short_answer_area → ⊥) → (number_told t' (suc (i + k)) ≡ short_answer_area → ⊥)
        → answer_at t' a' (suc (i + k)) ≡ answer_at t' a' (suc i)
    -- "The rows of each table on page s (..) are exactly those on the page, in its order; those of any other table are refused."
    pub rows_as_journaled : (i s table : ℕ) → i < n → request (suc i) ≡ reads (query_at s (Query.rows table)) → is_retained (state_after i) s ≡ true
        → (number_told t' (suc i) ≡ short_answer_area → ⊥)
        → answer_at t' a' (suc i)
        ≡ (let p : TableRows = (state_after i).journal.page s table in
        record {
          number = refuse_unless (no_such_id (load (state_after i).words (state_after i).counts) id_of_table table) p.present accepted;
          words = cond p.present p.rows [];
        })
    -- what a cleanup among them handed out, and any other answer, stands in the area as it was given
    pub answers : (i : ℕ) → i ≤ n → take (length_told t' i) (observation i).area_left ≡ (answer_at t' a' i).words
