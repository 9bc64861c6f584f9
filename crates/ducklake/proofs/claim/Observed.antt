-- Demand 3 as the caller sees it: a request that keeps its promise leaves the state that `step` leaves, or for a reading the state as it was, and a reading that keeps
-- its promise gives what `reading_of` says. So the claim holds of what was seen.
use Prim.Native.Nat.{ℕ, suc}
use mathlib.Core.Path.{◌≡◌, refl, sym, ap, subst, ◌∙◌}
use mathlib.Core.Bool.{Bool, true, cond, ◌&&◌}
use mathlib.Core.List.{List, [], ◌∷◌}
use lib.Dec.{leb, eqb}
use lib.ListN.{length, take}
use borrow.Author.Tests.{eqb-true}
use Rattle.lists.specs.Lists.{range, any, has}
use Rattle.lists.proofs.Tests.{if, both}
use Rattle.lists.proofs.Members.{any_in}
use Rattle.layout.specs.declared.outcome.Counts.{Counts}
use Rattle.layout.specs.declared.outcome.Outcome.{Outcome}
use Rattle.layout.specs.Words.{Words}
use Rattle.ducklake.specs.Refusals.{accepted}
use Rattle.ducklake.specs.Readings.{Query, files}
use Rattle.ducklake.specs.Calls.{Call, commit_at, expire_snapshots, clean_up, Result, place_zero, perform, perform_fresh, Reading, query_at, reading_refusal, perform_reading, Promise}
use Rattle.ducklake.specs.Lookup.{lookup_refusal, perform_lookup}
use Rattle.ducklake.specs.Claim.{State, Step, is_retained, answer_of, reading_of, is_listed, accepted_step, refused_step, step, run, fresh_state, Holds, when_made, SinceMade}
use Rattle.ducklake.specs.Observed.{Request, calls, reads, looks_up, perform_request, Observation, came_back, after, after_all, Kept, started, Reads, given, Seen, seen_made, SeenSinceMade, ObservedClaim}
use Rattle.ducklake.proofs.readings.Answers.{any_area}
use Rattle.ducklake.proofs.claim.Whole.{claim}
use Rattle.ducklake.proofs.claim.Since.{since_made_lem}

-- a result whose place is 0
abbrev placed : Result → Result
placed r = record { number = r.number; place = place_zero; length = r.length; counts = r.counts; words = r.words; area = r.area }

came_is : (x : Observation) (r : Result) → Promise r x.outcome x.words x.area_left → came_back x ≡ placed r
came_is x r p = λ i. record { number = p.number i; place = place_zero; length = p.length i; counts = p.counts i; words = p.words i; area = p.area i }

-- a place tells nothing
accepted_placed : (S : State) (k : Call) (r : Result) → accepted_step S k (placed r) ≡ accepted_step S k r
accepted_placed S (commit_at time k) r = refl
accepted_placed S (expire_snapshots ids time) r = refl
accepted_placed S (clean_up t) r = refl

-- a reading leaves the tables and the record as they were
reading_leaves : (q : Reading) (w : Words) (c : Counts) (area : List ℕ) → ((perform_reading q w c area).words ≡ w) × ((perform_reading q w c area).counts ≡ c)
unfolding perform_reading
reading_leaves q w c area = if (eqb (reading_refusal w c (length area) q) accepted) (λ b. (rw b, rw b)) (λ b. (rw b, rw b))

lookup_leaves : (k : ℕ) (w : Words) (c : Counts) (area : List ℕ) → ((perform_lookup k w c area).words ≡ w) × ((perform_lookup k w c area).counts ≡ c)
unfolding perform_lookup
lookup_leaves k w c area = if (eqb (lookup_refusal w c (length area) k) accepted) (λ b. (rw b, rw b)) (λ b. (rw b, rw b))

left_is : (S : State) (r : Result) → (r.words ≡ S.words) × (r.counts ≡ S.counts) → refused_step S r ≡ S
left_is S r p = λ i. record { words = p.0 i; counts = p.1 i; journal = S.journal; expired = S.expired; handed = S.handed; fallen = S.fallen }

-- the state after a request that keeps its promise

abbrev next : State → Request → List ℕ → State
next S (calls k) area = step S (record { call = k; area = area })
next S (reads q) area = S
next S (looks_up file) area = S

placed_is : (S : State) (q : Request) (area : List ℕ) → after S q (placed (perform_request q S.words S.counts area)) ≡ next S q area
unfolding step
placed_is S (calls k) area =
    let r : Result = perform k S.words S.counts area in
    ap (λ T. cond (eqb r.number accepted) T (refused_step S r)) (accepted_placed S k r)
placed_is S (reads q) area = left_is S (perform_reading q S.words S.counts area) (reading_leaves q S.words S.counts area)
placed_is S (looks_up file) area = left_is S (perform_lookup file S.words S.counts area) (lookup_leaves file S.words S.counts area)

after_is : (S : State) (x : Observation) → Promise (perform_request x.request S.words S.counts x.area) x.outcome x.words x.area_left
    → after S x.request (came_back x) ≡ next S x.request x.area
after_is S x p = ap (after S x.request) (came_is x _ p) ∙ placed_is S x.request x.area

-- the calls among the requests

abbrev stepped : Request → List ℕ → List Step → List Step
stepped (calls k) area xs = record { call = k; area = area } ∷ xs
stepped (reads q) area xs = xs
stepped (looks_up file) area xs = xs

abbrev steps : List Observation → List Step
steps [] = []
steps (x ∷ xs) = stepped x.request x.area (steps xs)

run_next : (S : State) (q : Request) (area : List ℕ) (xs : List Step) → run (next S q area) xs ≡ run S (stepped q area xs)
run_next S (calls k) area xs = refl
run_next S (reads q) area xs = refl
run_next S (looks_up file) area xs = refl

all-is : (S : State) (xs : List Observation) → Kept S xs → after_all S xs ≡ run S (steps xs)
all-is S [] p = refl
all-is S (x ∷ xs) p =
    all-is (after S x.request (came_back x)) xs p.1
    ∙ (ap (λ T. run T (steps xs)) (after_is S x p.0) ∙ run_next S x.request x.area (steps xs))

-- the state at which a snapshot is made is the same

made_already : (S : State) (xs : List Step) (s : ℕ) → cond (leb s S.journal.latest) S (when_made S xs s) ≡ when_made S xs s
made_already S [] s = if (leb s S.journal.latest) (λ b. rw b) (λ b. rw b)
made_already S (x ∷ xs) s = if (leb s S.journal.latest) (λ b. rw b) (λ b. rw b)

made_next : (S : State) (q : Request) (area : List ℕ) (xs : List Step) (s : ℕ)
    → cond (leb s S.journal.latest) S (when_made (next S q area) xs s) ≡ when_made S (stepped q area xs) s
made_next S (calls k) area xs s = refl
made_next S (reads q) area xs s = made_already S xs s
made_next S (looks_up file) area xs s = made_already S xs s

made-is : (S : State) (xs : List Observation) → Kept S xs → (s : ℕ) → seen_made S xs s ≡ when_made S (steps xs) s
made-is S [] p s = refl
made-is S (x ∷ xs) p s =
    ap (λ T. cond (leb s S.journal.latest) S T)
    (made-is (after S x.request (came_back x)) xs p.1 s ∙ ap (λ T. when_made T (steps xs) s) (after_is S x p.0))
    ∙ made_next S x.request x.area (steps xs) s

start_is : (time : ℕ) (w : Words) (c : Counts) (area : List ℕ) (o : Outcome) (w' : Words) (area_left : List ℕ) → Promise (perform_fresh time w c area) o w' area_left
    → started o w' ≡ fresh_state time w c area
unfolding fresh_state
start_is time w c area o w' area_left p = λ i. started (record { number = o.number; place = o.place; length = o.length; counts = p.counts i }) (p.words i)

-- a reading that keeps its promise

pub given_is : {S : State} {s : ℕ} {q : Query} (x : Reads S s q) → given x ≡ reading_of S.words S.counts s q
given_is {S} {s} {q} x = came ∙ any_area S.words S.counts s q x.area (λ e. x.room (x.kept.number ∙ e))
  where
    came : given x ≡ answer_of (perform_reading (query_at s q) S.words S.counts x.area)
    came = λ i. record { number = x.kept.number i; words = take (x.kept.length i) (x.kept.area i) }

module _ {S S' : State} (H : Holds S S') where
  seen_listed_lem : (s table k : ℕ) → is_retained S' s ≡ true → (x : Reads S' s (files table)) → (given x).number ≡ accepted → has k (given x).words ≡ true → is_listed S' k ≡ true
  seen_listed_lem s table k h x a b =
      let e = given_is x in
      H.listed_anywhere s table k h (sym (ap (λ y. y.number) e) ∙ a) (sym (ap (λ y. has k y.words) e) ∙ b)

  listed_seen_lem : (k : ℕ) → is_listed S' k ≡ true
      → (s : ℕ) × (table : ℕ) × (is_retained S' s ≡ true) × ((x : Reads S' s (files table)) → ((given x).number ≡ accepted) × (has k (given x).words ≡ true))
  unfolding is_listed
  listed_seen_lem k h =
      let inside : ℕ → ℕ → Bool = λ s table. eqb (reading_of S'.words S'.counts s (files table)).number accepted && has k (reading_of S'.words S'.counts s (files table)).words in
      let r = any_in (λ s. is_retained S' s && any (inside s) (range 0 S'.journal.next_catalog_id)) (range 0 (suc S'.journal.latest)) h in
      let b = both (is_retained S' r.0) (any (inside r.0) (range 0 S'.journal.next_catalog_id)) r.2 in
      let t = any_in (inside r.0) (range 0 S'.journal.next_catalog_id) b.1 in
      let a = both (eqb (reading_of S'.words S'.counts r.0 (files t.0)).number accepted) (has k (reading_of S'.words S'.counts r.0 (files t.0)).words) t.2 in
      (r.0, t.0, b.0, λ x. (ap (λ y. y.number) (given_is x) ∙ eqb-true _ _ a.0, ap (λ y. has k y.words) (given_is x) ∙ a.1))

  seen : Seen S S'
  seen = record {
    holds = H;
    readings_stay = λ s q h h' x x'. given_is x' ∙ (H.readings_stay s q h h' ∙ sym (given_is x));
    rows_as_journaled = λ s table h x. given_is x ∙ H.rows_as_journaled s table h;
    seen_listed = seen_listed_lem;
    listed_seen = listed_seen_lem;
  }

pub observed : ObservedClaim
observed time w c area o w' area_left p h xs ys k l =
    let f = start_is time w c area o w' area_left p in
    let a : after_all (started o w') xs ≡ run (fresh_state time w c area) (steps xs) = all-is (started o w') xs k ∙ ap (λ T. run T (steps xs)) f in
    let b = all-is (after_all (started o w') xs) ys l ∙ ap (λ T. run T (steps ys)) a in
    let H = claim time w c area (sym p.number ∙ h) (steps xs) (steps ys) in
    (seen (subst (λ T. Holds T (after_all (after_all (started o w') xs) ys)) (sym a) (subst (Holds (run (fresh_state time w c area) (steps xs))) (sym b) H)), stays f a)
  where
    stays : started o w' ≡ fresh_state time w c area → after_all (started o w') xs ≡ run (fresh_state time w c area) (steps xs) → SeenSinceMade (started o w') xs
    stays f a s q r x x' =
        let m : seen_made (started o w') xs s ≡ when_made (fresh_state time w c area) (steps xs) s = made-is (started o w') xs k s ∙ ap (λ T. when_made T (steps xs) s) f in
        let e = since_made_lem time w c area (sym p.number ∙ h) (steps xs) s (subst (λ T. is_retained T s ≡ true) a r) in
        let d : SinceMade (seen_made (started o w') xs s) (after_all (started o w') xs) s = subst (λ T. SinceMade T (after_all (started o w') xs) s) (sym m) (subst (λ T. SinceMade (when_made (fresh_state time w c area) (steps xs) s) T s) (sym a) e) in
        given_is x' ∙ ((λ i. record { number = d.accepted_when q i; words = d.same_answer q i }) ∙ sym (given_is x))
