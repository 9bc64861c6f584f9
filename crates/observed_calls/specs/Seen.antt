-- What a public call's caller sees of it, as demand 3 takes it.
use Rattle.std.specs.Prelude.{ℕ, ◌≡◌, List, ◌∷◌}
use Rattle.layout.specs.declared.outcome.Counts.{Counts}
use Rattle.layout.specs.declared.outcome.Outcome.{Outcome}
use Rattle.layout.specs.Words.{Words}
use Rattle.layout.specs.Lent.{Run, MutRun, lent_now, mut_lent_now}
use Rattle.ducklake.specs.Refusals.{accepted}
use Rattle.ducklake.specs.Calls.{perform_fresh, Promise}
use Rattle.ducklake.specs.Claim.{State}
use Rattle.ducklake.specs.Observed.{Request, Observation, came_back, after, after_all, Kept, started, Seen, SeenSinceMade}

-- The parameters of a public call: the twelve lent runs, then what it takes besides
abbrev pub Runs : Type 0 → Type 0 → Type 0
Runs R A = R × (R × (R × (R × (R × (R × (R × (R × (R × (R × (R × (R × A)))))))))))

-- the tables of a call that writes, and of one that reads
abbrev pub words_in : {A : Type 0} → Runs MutRun A → Words
words_in r =
    mut_lent_now r.0 r.1.0 r.1.1.0 r.1.1.1.0 r.1.1.1.1.0 r.1.1.1.1.1.0 r.1.1.1.1.1.1.0 r.1.1.1.1.1.1.1.0
    r.1.1.1.1.1.1.1.1.0 r.1.1.1.1.1.1.1.1.1.0 r.1.1.1.1.1.1.1.1.1.1.0 r.1.1.1.1.1.1.1.1.1.1.1.0

abbrev pub words_read : {A : Type 0} → Runs Run A → Words
words_read r =
    lent_now r.0 r.1.0 r.1.1.0 r.1.1.1.0 r.1.1.1.1.0 r.1.1.1.1.1.0 r.1.1.1.1.1.1.0 r.1.1.1.1.1.1.1.0
    r.1.1.1.1.1.1.1.1.0 r.1.1.1.1.1.1.1.1.1.0 r.1.1.1.1.1.1.1.1.1.1.0 r.1.1.1.1.1.1.1.1.1.1.1.0

abbrev pub besides : {R A : Type 0} → Runs R A → A
besides r = r.1.1.1.1.1.1.1.1.1.1.1.1

-- what is seen of a request: what went in, and what came back
abbrev pub seen : Request → List ℕ → Outcome → Words → List ℕ → Observation
seen request area outcome words area_left = record { request = request; area = area; outcome = outcome; words = words; area_left = area_left }

-- It goes in front of any history that goes on from there: made on the tables and the record that a history has come to, it has kept its promise
pub record Enters (request : Request) (w : Words) (c : Counts) (area : List ℕ) (o : Outcome) (w' : Words) (area_left : List ℕ) : Type 0 where
  pub kept : (S : State) → S.words ≡ w → S.counts ≡ c → (xs : List Observation)
      → Kept (after S request (came_back (seen request area o w' area_left))) xs → Kept S (seen request area o w' area_left ∷ xs)

-- the same over a public call's parameters, as it is lent them and as it leaves them
abbrev pub EntersBy : {A B : Type 0} → Request → Counts → Runs MutRun A → MutRun → Outcome → Runs MutRun B → MutRun → Type 0
EntersBy request counts lent area o left area_left = Enters request (words_in lent) counts area.now o (words_in left) area_left.now

-- and over a reading's, which is lent the tables to read alone
abbrev pub EntersByReading : {A B : Type 0} → Request → Counts → Runs Run A → MutRun → Outcome → Runs Run B → MutRun → Type 0
EntersByReading request counts lent area o left area_left = Enters request (words_read lent) counts area.now o (words_read left) area_left.now

-- Fresh: its promise, and where it is accepted demand 3 of any history from there and of any that goes on from it
pub record Starts (time : ℕ) (w : Words) (c : Counts) (area : List ℕ) (o : Outcome) (w' : Words) (area_left : List ℕ) : Type 0 where
  pub promise : Promise (perform_fresh time w c area) o w' area_left
  pub claim : o.number ≡ accepted → (xs ys : List Observation) → Kept (started o w') xs → Kept (after_all (started o w') xs) ys
      → Seen (after_all (started o w') xs) (after_all (after_all (started o w') xs) ys) × SeenSinceMade (started o w') xs
