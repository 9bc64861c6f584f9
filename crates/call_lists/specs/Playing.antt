-- A list of calls and readings played on lent tables: each on what the one before left, with what is left of one answer area as its own, and its outcome told.
use Rattle.std.specs.Prelude.{ℕ, suc, zero, ◌+◌, ◌*◌, ◌/◌, ◌<◌, min, ◌≡◌, true, List, [], ◌∷◌, ◌++◌, length, get_or, take, drop}
use Rattle.layout.specs.declared.outcome.Counts.{Counts}
use Rattle.layout.specs.declared.outcome.Outcome.{Outcome}
use Rattle.layout.specs.Words.{Words}
use Rattle.ducklake.specs.Calls.{Result}
use Rattle.call_lists.specs.declared.outcome.Session.{Session}
use Rattle.call_lists.specs.Records.{call_size, call_at}
use Rattle.call_lists.specs.Calls.{Asked, perform_asked, asked_of, call_count}

-- the tables, the record that the last call handed back, the area, and how many words of it are answers
pub record Played : Type 0 where
  pub words : Words
  pub counts : Counts
  pub area : List ℕ
  pub answered : ℕ

-- "each is on the same tables, with arguments and an answer area of its own": what the answers before have left of it
abbrev pub left : Played → List ℕ
left p = drop p.answered p.area

unfoldable pub result_on : Played → Asked → Result
result_on p x = perform_asked x p.words p.counts (left p)

abbrev pub next : Played → Result → Played
next p r = record { words = r.words; counts = r.counts; area = take p.answered p.area ++ r.area; answered = p.answered + r.length }

-- what is told of a call
abbrev pub told_size : ℕ
told_size = 3

unfoldable pub told_words : Outcome → List ℕ
told_words o = o.number ∷ o.place ∷ o.length ∷ []

-- the outcome of a call as the words from k on tell it
pub record Tells (r : Result) (told : List ℕ) (k : ℕ) : Type 0 where
  pub number : get_or told k 0 ≡ r.number
  pub place : r.place (get_or told (k + 1) 0) ≡ true
  pub length : get_or told (k + 2) 0 ≡ r.length

-- how many records of a list are played: up to one that asks for nothing, as many as can be told
unfoldable pub calls_played : List ℕ → List ℕ → List ℕ → List ℕ → ℕ
calls_played calls lists names told = call_count calls (length lists) (length names) (min (length calls / call_size) (length told / told_size))

-- a list, its arguments, and what it is played on
module _ (calls lists names : List ℕ) (w : Words) (c : Counts) (a : List ℕ) where
  abbrev pub asked : ℕ → Asked
  asked i = asked_of lists names (call_at calls i)

  -- after the first i records
  unfoldable pub played : ℕ → Played
  played zero = record { words = w; counts = c; area = a; answered = 0 }
  played (suc i) = next (played i) (result_on (played i) (asked i))

  -- what the record i gives and leaves
  abbrev pub result : ℕ → Result
  result i = result_on (played i) (asked i)

  -- What a list of n records gives and leaves
  pub record SessionPromise (n : ℕ) (t : List ℕ) (session : Session) (w' : Words) (a' t' : List ℕ) : Type 0 where
    pub count : session.played ≡ n
    pub words : w' ≡ (played n).words
    pub counts : session.counts ≡ (played n).counts
    -- the answers stand one after another
    pub area : a' ≡ (played n).area
    pub answered : session.answered ≡ (played n).answered
    -- of each its outcome is told, and no word past these changes
    pub told : (i : ℕ) → i < n → Tells (result i) t' (told_size * i)
    pub untold : drop (told_size * n) t' ≡ drop (told_size * n) t
