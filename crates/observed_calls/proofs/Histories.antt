-- Any history of the public calls: Fresh by itself or in front of a list, then single calls, readings, lookups and lists, each on what the one before left. It has demand 3.
use Prim.Native.Nat.{ℕ, suc}
use mathlib.Core.Path.{◌≡◌, refl, sym, ap, subst, ◌∙◌}
use mathlib.Core.List.{List, [], ◌∷◌, ◌++◌}
use Rattle.layout.specs.declared.outcome.Counts.{Counts}
use Rattle.layout.specs.declared.outcome.Outcome.{Outcome}
use Rattle.layout.specs.Words.{Words}
use Rattle.ducklake.specs.Refusals.{accepted}
use Rattle.ducklake.specs.Calls.{perform_fresh, Promise}
use Rattle.ducklake.specs.Claim.{State}
use Rattle.ducklake.specs.Observed.{Request, Observation, came_back, after, after_all, Kept, started, Seen, SeenSinceMade}
use Rattle.ducklake.proofs.claim.Observed.{observed}
use Rattle.call_lists.specs.declared.outcome.Session.{Session}
use Rattle.call_lists.specs.Records.{call_at}
use Rattle.call_lists.specs.Calls.{made_fresh}
use Rattle.call_lists.specs.Playing.{calls_played, played}
use Rattle.call_lists.specs.Demand.{number_told, outcome_told, observation, observations}
use Rattle.call_lists.proofs.DemandThree.{after_leaves, after-append, kept_append}
use Rattle.observed_calls.specs.Seen.{seen, Enters, Starts}
use Rattle.observed_calls.specs.Played.{ListPlayed, History}

-- it begins with Fresh, accepted

pub begins : (o : Outcome) (w : Words) → History o w [] w o.counts
begins o w = record { kept = tt; words = refl; counts = refl }

module _ {calls lists names : List ℕ} {w : Words} {c : Counts} {a t : List ℕ} {s : Session} {w' : Words} {a' t' : List ℕ} (L : ListPlayed calls lists names w c a t s w' a' t')
    (first : (call_at calls 0).kind ≡ made_fresh) (made : number_told t' 0 ≡ accepted) {n : ℕ} (all : calls_played calls lists names t ≡ suc n) where
  pub begins_list : History (outcome_told calls lists names w c a t' 0) (played calls lists names w c a 1).words (observations calls lists names w c a t' 1 n) w' s.counts
  begins_list = let C = L.claim first made n all in record { kept = C.kept; words = C.words; counts = C.counts }

  pub list_starts : Starts (call_at calls 0).time w c a (outcome_told calls lists names w c a t' 0) (played calls lists names w c a 1).words (observation calls lists names w c a t' 0).area_left
  list_starts = let p = (L.claim first made n all).begun in record { promise = p; claim = observed (call_at calls 0).time w c a _ _ _ p }

-- and goes on with a call, a reading or a lookup, or with a list

module _ {o : Outcome} {w₀ : Words} {xs : List Observation} {w : Words} {c : Counts} (h : History o w₀ xs w c) where
  pub then_request : {q : Request} {area : List ℕ} {o' : Outcome} {w' : Words} {area_left : List ℕ} → Enters q w c area o' w' area_left
      → History o w₀ (xs ++ (seen q area o' w' area_left ∷ [])) w' o'.counts
  then_request {q} {area} {o'} {w'} {area_left} e =
      let S = after_all (started o w₀) xs in
      let x = seen q area o' w' area_left in
      let l = after_leaves S q (came_back x) in
      let m = after-append (started o w₀) xs (x ∷ []) in
      record {
        kept = kept_append (started o w₀) xs (x ∷ []) h.kept (e.kept S h.words h.counts [] tt);
        words = ap (λ T. T.words) m ∙ l.0;
        counts = ap (λ T. T.counts) m ∙ l.1;
      }

  pub then_list : {calls lists names a t : List ℕ} {s : Session} {w' : Words} {a' t' : List ℕ} → ListPlayed calls lists names w c a t s w' a' t'
      → ((call_at calls 0).kind ≡ made_fresh → ⊥) → History o w₀ (xs ++ observations calls lists names w c a t' 0 (calls_played calls lists names t)) w' s.counts
  then_list {calls} {lists} {names} {a} {t} {t'} L f =
      let S = after_all (started o w₀) xs in
      let ys = observations calls lists names w c a t' 0 (calls_played calls lists names t) in
      let K = L.kept S h.words h.counts f in
      let m = after-append (started o w₀) xs ys in
      record {
        kept = kept_append (started o w₀) xs ys h.kept K.kept;
        words = ap (λ T. T.words) m ∙ K.words;
        counts = ap (λ T. T.counts) m ∙ K.counts;
      }

-- demand 3 of it: between any two of its states, and since each snapshot was made
pub demand_three : {time : ℕ} {w₁ : Words} {c₁ : Counts} {area : List ℕ} {o : Outcome} {w₀ : Words} {area_left : List ℕ} → Starts time w₁ c₁ area o w₀ area_left → o.number ≡ accepted
    → (xs ys : List Observation) {w : Words} {c : Counts} → History o w₀ (xs ++ ys) w c
    → Seen (after_all (started o w₀) xs) (after_all (started o w₀) (xs ++ ys)) × SeenSinceMade (started o w₀) xs
demand_three {o} {w₀} F made xs ys h =
    let k = kept_apart (started o w₀) xs ys h.kept in
    let r = F.claim made xs ys k.0 k.1 in
    (subst (Seen (after_all (started o w₀) xs)) (sym (after-append (started o w₀) xs ys)) r.0, r.1)
  where
    kept_apart : (S : State) (xs ys : List Observation) → Kept S (xs ++ ys) → Kept S xs × Kept (after_all S xs) ys
    kept_apart S [] ys p = (tt, p)
    kept_apart S (x ∷ xs) ys p = let r = kept_apart (after S x.request (came_back x)) xs ys p.1 in ((p.0, r.0), r.1)
