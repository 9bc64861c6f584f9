-- What a list comes to, record by record: no answer is longer than what is left of the area, and each outcome is told.
use Prim.Native.Nat.{ℕ, suc, ◌+◌, ◌-◌, ◌*◌, ◌/◌, ◌≤◌, ◌<◌, min}
use mathlib.Core.Path.{◌≡◌, refl, sym, ap, ap₂, subst, ◌∙◌}
use mathlib.Core.Bool.{true}
use mathlib.Core.List.{List, ◌++◌, append-nil}
use native.Mathlib.Omega.{arith}
use native.Mathlib.Nat.{add-zero, eq-or-lt_of_le}
use lib.ListN.{length, get_or, take, drop, length-drop, get_or-append}
use lib.Seq.{drop-drop, length-take-le, take_all, drop-length, get_or-take, get_or-append-add}
use borrow.Rule.Slice.PartMut.{put_mid, Post-is, same_len_mid}
use Rattle.lists.specs.Runs.{overwrite}
use Rattle.lists.proofs.Tests.{either}
use Rattle.lists.proofs.Runs.{overwrite_past}
use Rattle.layout.specs.declared.outcome.Counts.{Counts}
use Rattle.layout.specs.declared.outcome.Outcome.{Outcome}
use Rattle.layout.specs.Words.{Words}
use Rattle.ducklake.specs.Calls.{Result, Promise}
use Rattle.call_laws.proofs.Areas.{Fits, fresh_area, request_area}
use Rattle.call_lists.specs.declared.record.CallRecord.{CallRecord}
use Rattle.call_lists.specs.Records.{call_size, call_at}
use Rattle.call_lists.specs.Calls.{Asked, fresh, asks, perform_asked, spans_fit}
use Rattle.call_lists.specs.Playing.{Played, result_on, told_size, told_words, Tells, calls_played, asked, played, result, SessionPromise}
use Rattle.call_lists.proofs.KindLaws.{asked_spans}
use Rattle.call_lists.proofs.Leading.{counted_asks}

-- the spans of a record that is played lie within their runs
pub played_spans : (calls lists names told : List ℕ) {n i : ℕ} → n ≡ calls_played calls lists names told → i < n → {r : CallRecord} → r ≡ call_at calls i
    → spans_fit (length lists) (length names) r ≡ true
unfolding calls_played
played_spans calls lists names told {i} e h q =
    ap (spans_fit (length lists) (length names)) q
    ∙ asked_spans (length lists) (length names) i (call_at calls i) (counted_asks calls (length lists) (length names) (min (length calls / call_size) (length told / told_size)) i (subst (λ (m : ℕ). i < m) e h))

-- an answer has room in its area
pub asked_area : (x : Asked) (w : Words) (c : Counts) (area : List ℕ) → Fits (perform_asked x w c area) area
asked_area (fresh time) w c area = fresh_area time w c area
asked_area (asks q) w c area = request_area q w c area

-- words that are written over others, read again
module _ (w : List ℕ) (k : ℕ) (new : List ℕ) (h : k ≤ length w) where
  front : length (take k w) ≡ k
  front = length-take-le k w h

  written_before : (j : ℕ) → j < k → get_or (overwrite w k new) j 0 ≡ get_or w j 0
  unfolding overwrite
  written_before j l = get_or-append (take k w) (new ++ drop (k + length new) w) 0 j (omega (arith, l, front)) ∙ get_or-take k w j 0 l

  written_at : (j : ℕ) → j < length new → get_or (overwrite w k new) (k + j) 0 ≡ get_or new j 0
  unfolding overwrite
  written_at j l =
      ap (λ (i : ℕ). get_or (take k w ++ (new ++ drop (k + length new) w)) (i + j) 0) (sym front)
      ∙ (get_or-append-add (take k w) (new ++ drop (k + length new) w) j 0 ∙ get_or-append new (drop (k + length new) w) 0 j l)

tells_kept : (r : Result) (t : List ℕ) (k m : ℕ) (new : List ℕ) → m ≤ length t → k + told_size ≤ m → Tells r t k → Tells r (overwrite t m new) k
tells_kept r t k m new h l x =
    record {
      number = written_before t m new h k (omega (arith, l)) ∙ x.number;
      place = ap r.place (written_before t m new h (k + 1) (omega (arith, l))) ∙ x.place;
      length = written_before t m new h (k + 2) (omega (arith, l)) ∙ x.length;
    }

tells_new : {r : Result} (t : List ℕ) (k : ℕ) (o : Outcome) {w : Words} {a : List ℕ} → k + told_size ≤ length t → Promise r o w a → Tells r (overwrite t k (told_words o)) k
unfolding told_words
tells_new {r} t k o h p =
    let l : k ≤ length t = omega (arith, h) in
    record {
      number = ap (λ (i : ℕ). get_or (overwrite t k (told_words o)) i 0) (sym (add-zero k)) ∙ (written_at t k (told_words o) l 0 (omega arith) ∙ p.number);
      place = ap r.place (written_at t k (told_words o) l 1 (omega arith)) ∙ p.place;
      length = written_at t k (told_words o) l 2 (omega arith) ∙ p.length;
    }

-- what is left of an area, and an area with it put back
rest-is : (a : List ℕ) (k : ℕ) → k ≤ length a → take (length a - k) (drop k a) ≡ drop k a
rest-is a k h = take_all (length a - k) (drop k a) (omega (arith, length-drop k a))

put_back : (a : List ℕ) (k : ℕ) (b : List ℕ) → k ≤ length a → put_mid k (length a - k) a b ≡ take k a ++ b
put_back a k b h = ap (λ (xs : List ℕ). take k a ++ (b ++ xs)) (Post-is k (length a) a h ∙ drop-length a) ∙ ap (λ (xs : List ℕ). take k a ++ xs) (append-nil b)

-- an answer that is given behind k words of an area has room there
pub answer_fits : (x : Asked) (w : Words) (c : Counts) (a : List ℕ) (k : ℕ) {o : Outcome} {w' : Words} {b : List ℕ} → k ≤ length a
    → Promise (perform_asked x w c (take (length a - k) (drop k a))) o w' b → k + o.length ≤ length a
answer_fits x w c a k h p = omega (arith, (asked_area x w c (take (length a - k) (drop k a))).answer, p.length, ap length (rest-is a k h), length-drop k a)

promise_same : {r r' : Result} {o : Outcome} {w : Words} {a : List ℕ} → r ≡ r' → Promise r o w a → Promise r' o w a
promise_same {o} {w} {a} q p = subst (λ (x : Result). Promise x o w a) q p

on_played : (p : Played) (x : Asked) {w : Words} {c : Counts} {a : List ℕ} {k : ℕ} → w ≡ p.words → c ≡ p.counts → a ≡ p.area → k ≡ p.answered → k ≤ length a
    → perform_asked x w c (take (length a - k) (drop k a)) ≡ result_on p x
unfolding result_on
on_played p x {w} {c} {a} {k} e f g q h = ap (perform_asked x w c) (rest-is a k h) ∙ rw (e, f, g, q) refl

-- a record more is told
tells_more : (told : ℕ → Result) (i : ℕ) (t : List ℕ) (o : Outcome) {w : Words} {b : List ℕ} → told_size * i + told_size ≤ length t
    → ((j : ℕ) → j < i → Tells (told j) t (told_size * j)) → Promise (told i) o w b → (j : ℕ) → j ≤ i → Tells (told j) (overwrite t (told_size * i) (told_words o)) (told_size * j)
tells_more told i t o h f p j l =
    either (eq-or-lt_of_le l)
    (λ (e : j ≡ i). subst (λ (m : ℕ). Tells (told m) (overwrite t (told_size * i) (told_words o)) (told_size * m)) (sym e) (tells_new t (told_size * i) o h p))
    (λ (g : j < i). tells_kept (told j) t (told_size * j) (told_size * i) (told_words o) (omega (arith, h)) (omega (arith, g)) (f j g))

untold_more : (i : ℕ) (t t₁ : List ℕ) (o : Outcome) → told_size * i + told_size ≤ length t₁ → drop (told_size * i) t₁ ≡ drop (told_size * i) t
    → drop (told_size * suc i) (overwrite t₁ (told_size * i) (told_words o)) ≡ drop (told_size * suc i) t
unfolding told_words
untold_more i t t₁ o h e =
    let q : told_size * i + told_size ≡ told_size * suc i = omega arith in
    overwrite_past t₁ (told_size * i) (told_words o) (told_size * suc i) (omega (arith, h)) (omega arith)
    ∙ (ap (λ (m : ℕ). drop m t₁) (sym q) ∙ (sym (drop-drop told_size (told_size * i) t₁) ∙ (ap (drop told_size) e ∙ (drop-drop told_size (told_size * i) t ∙ ap (λ (m : ℕ). drop m t) q))))

module _ (calls lists names : List ℕ) (w : Words) (c : Counts) (a t : List ℕ) where
  -- after the first i records of the list
  pub record Playing (i : ℕ) (w' : Words) (c' : Counts) (a' : List ℕ) (k : ℕ) (t' : List ℕ) : Type 0 where
    pub words : w' ≡ (played calls lists names w c a i).words
    pub counts : c' ≡ (played calls lists names w c a i).counts
    pub area : a' ≡ (played calls lists names w c a i).area
    pub answered : k ≡ (played calls lists names w c a i).answered
    pub room : k ≤ length a'
    pub told : (j : ℕ) → j < i → Tells (result calls lists names w c a j) t' (told_size * j)
    pub untold : drop (told_size * i) t' ≡ drop (told_size * i) t

  pub playing_start : Playing 0 w c a 0 t
  unfolding played
  playing_start = record { words = refl; counts = refl; area = refl; answered = refl; room = omega arith; told = λ j h. absurd (omega arith); untold = refl }

  pub playing_next : (i : ℕ) {w₁ : Words} {c₁ : Counts} {a₁ : List ℕ} {k : ℕ} {t₁ : List ℕ} → Playing i w₁ c₁ a₁ k t₁ → told_size * i + told_size ≤ length t₁
      → {o : Outcome} {w₂ : Words} {b t₂ : List ℕ} → Promise (perform_asked (asked calls lists names w c a i) w₁ c₁ (take (length a₁ - k) (drop k a₁))) o w₂ b
      → length b ≡ length (take (length a₁ - k) (drop k a₁)) → t₂ ≡ overwrite t₁ (told_size * i) (told_words o)
      → Playing (i + 1) w₂ o.counts (put_mid k (length a₁ - k) a₁ b) (k + o.length) t₂
  unfolding played
  playing_next i {w₁} {c₁} {a₁} {k} {t₁} P h {o} {w₂} {b} {t₂} p l e =
      let x = asked calls lists names w c a i in
      let p' = promise_same (on_played (played calls lists names w c a i) x P.words P.counts P.area P.answered P.room) p in
      let q : suc i ≡ i + 1 = omega arith in
      let n = same_len_mid k (length a₁ - k) a₁ b l in
      subst (λ (j : ℕ). Playing j w₂ o.counts (put_mid k (length a₁ - k) a₁ b) (k + o.length) t₂) q
      (record {
        words = p'.words;
        counts = p'.counts;
        area = put_back a₁ k b P.room ∙ ap₂ ◌++◌ (ap₂ take P.answered P.area) p'.area;
        answered = ap₂ ◌+◌ P.answered p'.length;
        room = omega (arith, n, answer_fits x w₁ c₁ a₁ k P.room p);
        told = λ j g. subst (λ (v : List ℕ). Tells (result calls lists names w c a j) v (told_size * j)) (sym e)
            (tells_more (result calls lists names w c a) i t₁ o h P.told p' j (omega (arith, g)));
        untold = ap (drop (told_size * suc i)) e ∙ untold_more i t t₁ o h P.untold;
      })

  -- when the last has been played
  playing_end : (n : ℕ) {w' : Words} {c' : Counts} {a' : List ℕ} {k : ℕ} {t' : List ℕ} → Playing n w' c' a' k t'
      → SessionPromise calls lists names w c a n t (record { played = n; answered = k; counts = c' }) w' a' t'
  playing_end n P = record {
    count = refl;
    words = P.words;
    counts = P.counts;
    area = P.area;
    answered = P.answered;
    told = P.told;
    untold = P.untold;
  }

  pub session_whole : {n m i : ℕ} {w' : Words} {c' : Counts} {a' : List ℕ} {k : ℕ} {t' : List ℕ} → n ≡ m → i ≤ n → n ≤ i → Playing i w' c' a' k t'
      → SessionPromise calls lists names w c a m t (record { played = n; answered = k; counts = c' }) w' a' t'
  session_whole {n} {m} {i} {w'} {c'} {a'} {k} {t'} e l g P =
      let q : i ≡ m = omega (arith, e, l, g) in
      rw e (playing_end m (subst (λ (j : ℕ). Playing j w' c' a' k t') q P))
