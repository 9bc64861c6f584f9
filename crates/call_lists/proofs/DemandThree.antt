-- Demand 3 of lists that were played. Each record is a request that kept its promise on what the one before left, so a list goes into any history; and of a list that
-- begins with Fresh the claim holds, of what it leaves in its caller's runs.
use Prim.Native.Nat.{ℕ, zero, suc, ◌+◌, ◌≤◌, ◌<◌}
use mathlib.Core.Path.{◌≡◌, refl, sym, ap, ap₂, subst, ◌∙◌}
use mathlib.Core.Bool.{true, cond}
use mathlib.Core.List.{List, [], ◌∷◌, ◌++◌, map}
use native.Mathlib.Omega.{arith}
use native.Mathlib.Nat.{add-zero}
use lib.Dec.{eqb}
use lib.ListN.{length, take, drop}
use Rattle.lists.specs.Lists.{range}
use Rattle.lists.proofs.Tests.{if}
use Rattle.lists.proofs.Places.{range_split}
use Rattle.lists.proofs.Selections.{map-append}
use Rattle.layout.specs.declared.outcome.Counts.{Counts}
use Rattle.layout.specs.Words.{Words, load}
use Rattle.ducklake.specs.Refusals.{accepted, short_answer_area, id_of_table, no_such_id, refuse_unless}
use Rattle.ducklake.specs.Readings.{Query}
use Rattle.ducklake.specs.Calls.{Result, perform_fresh, query_at, Promise}
use Rattle.ducklake.specs.Journal.{TableRows}
use Rattle.ducklake.specs.Claim.{State, is_retained}
use Rattle.ducklake.specs.Observed.{Request, calls, reads, looks_up, perform_request, Observation, came_back, after, after_all, Kept, Reads, given, Seen, SeenSinceMade}
use Rattle.ducklake.proofs.claim.Observed.{observed}
use Rattle.call_lists.specs.declared.outcome.Session.{Session}
use Rattle.call_lists.specs.Records.{call_at}
use Rattle.call_lists.specs.Calls.{made_fresh, Asked, asks, perform_asked}
use Rattle.call_lists.specs.Playing.{Played, left, result_on, calls_played, asked, played, result, SessionPromise}
use Rattle.call_lists.specs.Demand.{number_told, length_told, answer_at, request, observation, observations, answer_start, ListKept, state_made, state_after, ListClaim}
use Rattle.call_lists.proofs.KindLaws.{fresh-is, request_is, asked_later}
use Rattle.call_lists.proofs.Leading.{counted_asks}
use Rattle.call_lists.proofs.Answers.{area_left_lem, answer_left, starts}

-- the tables and the record after a request are those that came back
pub after_leaves : (S : State) (q : Request) (r : Result) → ((after S q r).words ≡ r.words) × ((after S q r).counts ≡ r.counts)
after_leaves S (calls k) r = if (eqb r.number accepted) (λ e. rw e (refl, refl)) (λ e. rw e (refl, refl))
after_leaves S (reads q) r = (refl, refl)
after_leaves S (looks_up file) r = (refl, refl)

pub after-append : (S : State) (xs ys : List Observation) → after_all S (xs ++ ys) ≡ after_all (after_all S xs) ys
after-append S [] ys = refl
after-append S (x ∷ xs) ys = after-append (after S x.request (came_back x)) xs ys

pub kept_append : (S : State) (xs ys : List Observation) → Kept S xs → Kept (after_all S xs) ys → Kept S (xs ++ ys)
kept_append S [] ys p q = q
kept_append S (x ∷ xs) ys p q = (p.0, kept_append (after S x.request (came_back x)) xs ys p.1 q)

module _ (calls lists names : List ℕ) (w : Words) (c : Counts) (a t : List ℕ) {s : Session} {w' : Words} {a' t' : List ℕ}
    (P : SessionPromise calls lists names w c a (calls_played calls lists names t) t s w' a' t') where
  abbrev count : ℕ
  count = calls_played calls lists names t

  abbrev at : ℕ → Played
  at = played calls lists names w c a

  abbrev asks_for : ℕ → Request
  asks_for = request calls lists names w c a t'

  abbrev saw : ℕ → Observation
  saw = observation calls lists names w c a t'

  abbrev saw_all : ℕ → ℕ → List Observation
  saw_all = observations calls lists names w c a t'

  -- a record that is told gives what it should, and leaves it
  gave : (i : ℕ) → i < count → Promise (result calls lists names w c a i) (saw i).outcome (saw i).words (saw i).area_left
  unfolding played
  gave i h =
      let b = P.told i h in
      record { number = b.number; place = b.place; length = b.length; counts = refl; words = refl; area = area_left_lem calls lists names w c a i }

  -- every record but a Fresh in front is a request
  is_request : (i : ℕ) → i < count → (i ≡ 0 → (call_at calls 0).kind ≡ made_fresh → ⊥) → asked calls lists names w c a i ≡ asks (asks_for i)
  unfolding calls_played
  is_request zero h n = request_is lists names (call_at calls 0) (n refl)
  is_request (suc i) h n =
      request_is lists names (call_at calls (suc i))
      (asked_later (length lists) (length names) (suc i) (call_at calls (suc i)) (counted_asks calls (length lists) (length names) _ (suc i) h) (λ e. absurd (omega (arith, e))))

  module _ (S : State) (i : ℕ) (h : i < count) (n : i ≡ 0 → (call_at calls 0).kind ≡ made_fresh → ⊥) (p : S.words ≡ (at i).words) (q : S.counts ≡ (at i).counts) where
    kept_one : Promise (perform_request (asks_for i) S.words S.counts (left (at i))) (saw i).outcome (saw i).words (saw i).area_left
    unfolding result_on
    kept_one = subst (λ (r : Result). Promise r (saw i).outcome (saw i).words (saw i).area_left) same (gave i h)
      where
        same : result calls lists names w c a i ≡ perform_request (asks_for i) S.words S.counts (left (at i))
        same = ap (λ (x : Asked). perform_asked x (at i).words (at i).counts (left (at i))) (is_request i h n)
            ∙ sym (ap₂ (λ (v : Words) (d : Counts). perform_request (asks_for i) v d (left (at i))) p q)

  -- n records from i on, in a state that has come to what the records before leave
  kept_from : (S : State) (i n : ℕ) → i + n ≤ count → (i ≡ 0 → (call_at calls 0).kind ≡ made_fresh → ⊥) → S.words ≡ (at i).words → S.counts ≡ (at i).counts
      → Kept S (saw_all i n) × ((after_all S (saw_all i n)).words ≡ (at (i + n)).words) × ((after_all S (saw_all i n)).counts ≡ (at (i + n)).counts)
  unfolding range
  kept_from S i zero h f p q = (tt, p ∙ ap (λ j. (at j).words) (sym (add-zero i)), q ∙ ap (λ j. (at j).counts) (sym (add-zero i)))
  kept_from S i (suc n) h f p q =
      let l = after_leaves S (asks_for i) _ in
      let r = kept_from (after S (asks_for i) (came_back (saw i))) (suc i) n (omega (arith, h)) (λ e. absurd (omega (arith, e))) l.0 l.1 in
      let e : suc i + n ≡ i + suc n = omega arith in
      ((kept_one S i (omega (arith, h)) f p q, r.0), r.1 ∙ ap (λ j. (at j).words) e, r.2 ∙ ap (λ j. (at j).counts) e)

  -- its answer stands in the area that is left
  answer_is : (i : ℕ) → i < count → take (length_told t' i) (saw i).area_left ≡ (answer_at t' a' i).words
  answer_is i h =
      let l = (P.told i h).length in
      let b = starts calls lists names w c a t' count P.told i (omega (arith, h)) in
      ap (λ m. take m (saw i).area_left) l
      ∙ (sym (answer_left calls lists names w c a i count h)
      ∙ (ap₂ (λ m k. take m (drop k (at count).area)) (sym l) (sym b)
      ∙ ap (λ x. take (length_told t' i) (drop (answer_start t' i) x)) (sym P.area)))

  -- a list that does not begin with Fresh goes on from where a history has come to
  pub list_kept : (S : State) → S.words ≡ w → S.counts ≡ c → ((call_at calls 0).kind ≡ made_fresh → ⊥) → ListKept calls lists names w c a t' S count s w' a'
  unfolding played
  list_kept S p q f =
      let r = kept_from S 0 count (omega arith) (λ e. f) p q in
      let e : 0 + count ≡ count = omega arith in
      record {
        kept = r.0;
        words = r.1 ∙ (ap (λ j. (at j).words) e ∙ sym P.words);
        counts = r.2 ∙ (ap (λ j. (at j).counts) e ∙ sym P.counts);
        answers = answer_is;
      }

  -- a list that begins with Fresh, and n records behind it
  module _ (first : (call_at calls 0).kind ≡ made_fresh) (made : number_told t' 0 ≡ accepted) (n : ℕ) (all : count ≡ suc n) where
    abbrev begin : State
    begin = state_made calls lists names w c a t'

    abbrev state : ℕ → State
    state = state_after calls lists names w c a t'

    begun : Promise (perform_fresh (call_at calls 0).time w c a) (saw 0).outcome (saw 0).words (saw 0).area_left
    unfolding played result_on
    begun = subst (λ (x : Asked). Promise (perform_asked x w c a) (saw 0).outcome (saw 0).words (saw 0).area_left) (sym (fresh-is lists names (call_at calls 0) first))
        (gave 0 (omega (arith, all)))

    not_first : (i : ℕ) → suc i ≡ 0 → (call_at calls 0).kind ≡ made_fresh → ⊥
    not_first i e = absurd (omega (arith, e))

    one_more : (i : ℕ) → 1 + i ≡ suc i
    one_more i = omega arith

    -- i of the records behind Fresh, and k more
    come : (i : ℕ) → i ≤ n → Kept begin (saw_all 1 i) × ((state i).words ≡ (at (suc i)).words) × ((state i).counts ≡ (at (suc i)).counts)
    come i h =
        let r = kept_from begin 1 i (omega (arith, h, all)) (not_first 0) refl refl in
        (r.0, r.1 ∙ ap (λ j. (at j).words) (one_more i), r.2 ∙ ap (λ j. (at j).counts) (one_more i))

    on : (i k : ℕ) → i + k ≤ n → Kept (state i) (saw_all (suc i) k)
    on i k h =
        let p = come i (omega (arith, h)) in
        (kept_from (state i) (suc i) k (omega (arith, h, all)) (not_first i) p.1 p.2).0

    further : (i k : ℕ) → after_all (state i) (saw_all (suc i) k) ≡ state (i + k)
    further i k =
        ap (λ j. after_all (state i) (saw_all j k)) (sym (one_more i))
        ∙ (sym (after-append begin (saw_all 1 i) (saw_all (1 + i) k))
        ∙ ap (after_all begin) (sym (ap (map saw) (range_split 1 i k) ∙ map-append saw (range 1 i) (range (1 + i) k))))

    both_claims : (i k : ℕ) → i + k ≤ n → Seen (state i) (state (i + k)) × SeenSinceMade begin (saw_all 1 i)
    both_claims i k h =
        let o = observed (call_at calls 0).time w c a (saw 0).outcome (saw 0).words (saw 0).area_left begun made (saw_all 1 i) (saw_all (suc i) k) (come i (omega (arith, h))).0 (on i k h) in
        (subst (Seen (state i)) (further i k) o.0, o.1)

    whole : (i : ℕ) → i ≤ n → Seen (state i) (state i)
    whole i h = subst (λ (k : ℕ). Seen (state i) (state k)) (add-zero i) (both_claims i 0 (omega (arith, h))).0

    pub list_claim : ListClaim calls lists names w c a t' n s w' a'
    list_claim = record {
      begun = begun;
      kept = (come n (omega arith)).0;
      words = (come n (omega arith)).1 ∙ (ap (λ j. (at j).words) (sym all) ∙ sym P.words);
      counts = (come n (omega arith)).2 ∙ (ap (λ j. (at j).counts) (sym all) ∙ sym P.counts);
      seen = λ i k h. (both_claims i k h).0;
      since_made = λ i h. (both_claims i 0 (omega (arith, h))).1;
      reading = read;
      readings_stay = stay;
      rows_as_journaled = rows;
      answers = λ i h. answer_is i (omega (arith, h, all));
    }
      where
        read : (i s : ℕ) (q : Query) → i < n → asks_for (suc i) ≡ reads (query_at s q) → (number_told t' (suc i) ≡ short_answer_area → ⊥)
            → (x : Reads (state i) s q) × (given x ≡ answer_at t' a' (suc i))
        read i s q h e f =
            let p = come i (omega (arith, h)) in
            let k = kept_one (state i) (suc i) (omega (arith, h, all)) (not_first i) p.1 p.2 in (
              record {
                area = left (at (suc i));
                outcome = (saw (suc i)).outcome;
                words = (saw (suc i)).words;
                area_left = (saw (suc i)).area_left;
                kept = subst (λ (r : Request). Promise (perform_request r (state i).words (state i).counts (left (at (suc i)))) (saw (suc i)).outcome (saw (suc i)).words (saw (suc i)).area_left) e k;
                room = f;
              },
              λ j. record { number = number_told t' (suc i); words = answer_is (suc i) (omega (arith, h, all)) j },
            )

        stay : (i k s : ℕ) (q : Query) → i + k < n → asks_for (suc i) ≡ reads (query_at s q) → asks_for (suc (i + k)) ≡ reads (query_at s q)
            → is_retained (state i) s ≡ true → is_retained (state (i + k)) s ≡ true
            → (number_told t' (suc i) ≡ short_answer_area → ⊥) → (number_told t' (suc (i + k)) ≡ short_answer_area → ⊥)
            → answer_at t' a' (suc (i + k)) ≡ answer_at t' a' (suc i)
        stay i k s q h e e' r r' f f' =
            let x = read i s q (omega (arith, h)) e f in
            let x' = read (i + k) s q h e' f' in
            sym x'.1 ∙ ((both_claims i k (omega (arith, h))).0.readings_stay s q r r' x.0 x'.0 ∙ x.1)

        rows : (i s table : ℕ) → i < n → asks_for (suc i) ≡ reads (query_at s (Query.rows table)) → is_retained (state i) s ≡ true
            → (number_told t' (suc i) ≡ short_answer_area → ⊥)
            → answer_at t' a' (suc i)
            ≡ (let p : TableRows = (state i).journal.page s table in
            record { number = refuse_unless (no_such_id (load (state i).words (state i).counts) id_of_table table) p.present accepted; words = cond p.present p.rows [] })
        rows i s table h e r f =
            let x = read i s (Query.rows table) h e f in
            sym x.1 ∙ (whole i (omega (arith, h))).rows_as_journaled s table r x.0
