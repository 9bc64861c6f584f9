-- What the caller of a list has when it has been played, and a history of such lists and of single calls.
use Rattle.std.specs.Prelude.{ℕ, suc, ◌≡◌, List}
use Rattle.layout.specs.declared.outcome.Counts.{Counts}
use Rattle.layout.specs.declared.outcome.Outcome.{Outcome}
use Rattle.layout.specs.Words.{Words}
use Rattle.ducklake.specs.Refusals.{accepted}
use Rattle.ducklake.specs.Claim.{State}
use Rattle.ducklake.specs.Observed.{Observation, after_all, Kept, started}
use Rattle.call_lists.specs.declared.outcome.Session.{Session}
use Rattle.call_lists.specs.Records.{call_at}
use Rattle.call_lists.specs.Calls.{made_fresh}
use Rattle.call_lists.specs.Playing.{calls_played, SessionPromise}
use Rattle.call_lists.specs.Demand.{number_told, ListKept, ListClaim}

pub record ListPlayed (calls lists names : List ℕ) (w : Words) (c : Counts) (a t : List ℕ) (s : Session) (w' : Words) (a' t' : List ℕ) : Type 0 where
  pub promise : SessionPromise calls lists names w c a (calls_played calls lists names t) t s w' a' t'
  -- without Fresh in front, it goes on from where a history has come to
  pub kept : (S : State) → S.words ≡ w → S.counts ≡ c → ((call_at calls 0).kind ≡ made_fresh → ⊥) → ListKept calls lists names w c a t' S (calls_played calls lists names t) s w' a'
  -- with Fresh in front, accepted: demand 3, whole, of what is left in the caller's runs
  pub claim : (call_at calls 0).kind ≡ made_fresh → number_told t' 0 ≡ accepted → (n : ℕ) → calls_played calls lists names t ≡ suc n → ListClaim calls lists names w c a t' n s w' a'

-- A history since Fresh, whose outcome was o and which left w₀: what was seen since, and the tables and the record that it has come to
pub record History (o : Outcome) (w₀ : Words) (xs : List Observation) (w : Words) (c : Counts) : Type 0 where
  pub kept : Kept (started o w₀) xs
  pub words : (after_all (started o w₀) xs).words ≡ w
  pub counts : (after_all (started o w₀) xs).counts ≡ c
