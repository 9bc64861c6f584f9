-- The merge of a file's positions with the ascending ones that are deleted: what has been passed of both, and how many positions are left.
use Prim.Native.Nat.{ℕ, zero, suc, ◌+◌, ◌-◌, ◌≤◌, ◌<◌}
use mathlib.Core.Path.{◌≡◌, refl, sym, ap, ◌∙◌}
use mathlib.Core.Bool.{Bool, true, false, not, ◌&&◌, ◌||◌}
use mathlib.Core.List.{List, [], ◌∷◌, map, append-nil}
use native.Mathlib.Omega.{arith}
use native.Mathlib.Nat.{zero-add}
use lib.Dec.{ltb, eqb}
use lib.ListN.{length, get_or, set, length-map, length-set}
use lib.Seq.{take-length, drop-length}
use borrow.Author.Tests.{eq-eqb, eqb-true, eqb-false, lt-ltb, ltb-true, ltb-false}
use Rattle.lists.specs.Lists.{range, any, chained, filter, has, count, bit}
use Rattle.lists.specs.Runs.{overwrite}
use Rattle.lists.proofs.Tests.{if, both, and, same_test, clash, reflects_ltb}
use Rattle.lists.proofs.Members.{In, All, Pairwise, none, more, here, next, each, in_map_of, in_range_lem, all_in, reflects_has}
use Rattle.lists.proofs.Counts.{count_range, count-zero, filter_length}
use Rattle.lists.proofs.Layouts.{words_one_by_one}
use Rattle.lists.proofs.Loops.{length-range, counted, counted_start, counted_pass, counted_fail, counted_room, sent, sent_start, sent_pass, sent_fail, sent_end}
use Rattle.lists.proofs.Orders.{reflects_chained}
use Rattle.lists.proofs.Search.{ascending}
use Rattle.lists.proofs.Selections.{map-id}
use Rattle.row_lists.specs.Rows.{rows_but, RowsFit}

-- of the deleted positions ps those before j are below p, and those from j on are not
pub record Passed (ps : List ℕ) (j p : ℕ) : Type 0 where
  pub within : j ≤ length ps
  pub before : (i : ℕ) → i < j → get_or ps i 0 < p
  pub after : (i : ℕ) → j ≤ i → i < length ps → p ≤ get_or ps i 0

pub passed_start : (ps : List ℕ) → Passed ps 0 0
passed_start ps = record { within = omega arith; before = λ i h. absurd (omega arith); after = λ i h l. omega arith }

module _ (ps : List ℕ) (asc : chained ltb ps ≡ true) where
  word : ℕ → ℕ
  word i = get_or ps i 0

  one_by_one : map word (range 0 (length ps)) ≡ ps
  unfolding word
  one_by_one = words_one_by_one (length ps) ps (omega arith) ∙ take-length ps

  rising : (i l : ℕ) → i < l → l < length ps → get_or ps i 0 < get_or ps l 0
  unfolding word
  rising i l h k = ascending word (length ps) (ap (chained ltb) one_by_one ∙ asc) i l h k

  has_at : (p : ℕ) → has p ps ≡ true → (i : ℕ) × (i < length ps) × (p ≡ get_or ps i 0)
  unfolding word
  has_at p h =
      let m = (reflects_has p ps).to h in
      let r = in_map_of word (range 0 (length ps)) (rw (← one_by_one) at m) in
      (r.0, omega (arith, (in_range_lem 0 (length ps) r.1).1), r.2)

  at_has : (p i : ℕ) → i < length ps → get_or ps i 0 ≡ p → has p ps ≡ true
  unfolding word
  at_has p i l e = (reflects_has p ps).from (rw (← e) (there ps i l))
    where
      there : (xs : List ℕ) (i : ℕ) → i < length xs → In (get_or xs i 0) xs
      there [] i h = absurd (omega arith)
      there (x ∷ xs) zero h = here refl
      there (x ∷ xs) (suc i) h = next (there xs i (omega arith))

  module _ (j p : ℕ) {b : Bool} (e : b ≡ (ltb j (length ps) && eqb (get_or ps j 0) p)) (s : Passed ps j p) where
    -- p is deleted just where it is the position j
    pub deleted_is : has p ps ≡ b
    deleted_is = same_test (has p ps) (ltb j (length ps) && eqb (get_or ps j 0) p) to from ∙ sym e
      where
        at_next : (i : ℕ) → i < length ps → p ≡ get_or ps i 0 → i ≡ j
        at_next i l q =
            if (ltb i j) (λ t. absurd (omega (arith, s.before i (ltb-true i j t))))
            (λ t. if (ltb j i) (λ u. absurd (omega (arith, rising j i (ltb-true j i u) l, s.after j (omega arith) (omega (arith, ltb-true j i u)))))
            (λ u. omega (arith, ltb-false i j t, ltb-false j i u)))

        to : has p ps ≡ true → (ltb j (length ps) && eqb (get_or ps j 0) p) ≡ true
        to h =
            let r = has_at p h in
            let q = at_next r.0 r.1 r.2 in
            and (lt-ltb j (length ps) (omega (arith, r.1, q))) (eq-eqb (get_or ps j 0) p (rw (← q) (sym r.2)))

        from : (ltb j (length ps) && eqb (get_or ps j 0) p) ≡ true → has p ps ≡ true
        from h = let t = both (ltb j (length ps)) (eqb (get_or ps j 0) p) h in at_has p j (ltb-true j (length ps) t.0) (eqb-true (get_or ps j 0) p t.1)

    -- both are passed, or p alone
    pub passed_both : b ≡ true → Passed ps (j + 1) (p + 1)
    passed_both h =
        let t = both (ltb j (length ps)) (eqb (get_or ps j 0) p) (sym e ∙ h) in
        let l = ltb-true j (length ps) t.0 in
        let q = eqb-true (get_or ps j 0) p t.1 in
        record {
          within = omega arith;
          before = λ i k. if (ltb i j) (λ u. omega (arith, s.before i (ltb-true i j u))) (λ u. last i k u q);
          after = λ i k m. omega (arith, rising j i (omega arith) m, q);
        }
      where
        last : (i : ℕ) → i < j + 1 → ltb i j ≡ false → get_or ps j 0 ≡ p → get_or ps i 0 < p + 1
        last i k u q = let same : i ≡ j = omega (arith, ltb-false i j u) in rw same (omega (arith, q))

    pub passed_one : b ≡ false → Passed ps j (p + 1)
    passed_one h = record {
      within = s.within;
      before = λ i k. omega (arith, s.before i k);
      after = λ i k m. if (eqb (get_or ps i 0) p) (λ u. clash (sym deleted_is ∙ at_has p i m (eqb-true (get_or ps i 0) p u)) h) (λ u. past i (s.after i k m) (eqb-false (get_or ps i 0) p u));
    }
      where
        past : (i : ℕ) → p ≤ get_or ps i 0 → (get_or ps i 0 ≡ p → ⊥) → p + 1 ≤ get_or ps i 0
        past i k u = if (ltb p (get_or ps i 0)) (λ w. omega (arith, ltb-true p (get_or ps i 0) w)) (λ w. absurd (u (omega (arith, ltb-false p (get_or ps i 0) w))))

-- how many of the first n numbers are among ps, which ascend below n

count_or : {A : Type 0} (p q : A → Bool) (xs : List A) → ((x : A) → p x ≡ true → q x ≡ false) → count (λ x. p x || q x) xs ≡ count p xs + count q xs
unfolding count
count_or p q [] h = refl
count_or p q (x ∷ xs) h =
    let ih = count_or p q xs h in
    if (p x) (λ b. rw (b, h x b) (omega (arith, ih))) (λ b. rw b (omega (arith, ih)))

count_rest : {A : Type 0} (p : A → Bool) (xs : List A) → count (λ x. not (p x)) xs + count p xs ≡ length xs
unfolding count
count_rest p [] = refl
count_rest p (x ∷ xs) = let ih = count_rest p xs in if (p x) (λ b. rw b (omega (arith, ih))) (λ b. rw b (omega (arith, ih)))

count_among : (n : ℕ) {ps : List ℕ} → Pairwise ◌<◌ ps → All (λ p. p < n) ps → count (λ x. has x ps) (range 0 n) ≡ length ps
unfolding any
count_among n none h = count-zero (λ x. false) (range 0 n) (λ x m. refl)
count_among n (more {x = p} {xs = ps} g r) h =
    count_or (λ x. eqb x p) (λ x. has x ps) (range 0 n) later
    ∙ omega (arith, count_range 0 n p, count_among n r (each (λ x m. h.at x (next m))), ap bit none_below, ap bit (lt-ltb p (0 + n) (omega (arith, h.at p (here refl)))))
  where
    none_below : ltb p 0 ≡ false
    none_below = if (ltb p 0) (λ t. absurd (omega (arith, ltb-true p 0 t))) (λ t. t)

    later : (x : ℕ) → eqb x p ≡ true → has x ps ≡ false
    later x t = if (has x ps) (λ u. absurd (omega (arith, eqb-true x p t, g.at x ((reflects_has x ps).to u)))) (λ u. u)

module _ {start n : ℕ} {ps : List ℕ} (f : RowsFit start n ps) where
  among : count (λ x. has x ps) (range 0 n) ≡ length ps
  among =
      count_among n ((reflects_chained reflects_ltb (λ a b c h k. omega (arith, h, k)) ps).to f.ascending)
      (each (λ p m. ltb-true p n (all_in (λ q. ltb q n) ps f.below m)))

  rows_length : length (rows_but start n ps) ≡ count (λ x. not (has x ps)) (range 0 n)
  rows_length = length-map (filter (λ p. not (has p ps)) (range 0 n)) (λ p. start + p) ∙ filter_length (λ p. not (has p ps)) (range 0 n)

  pub deleted_most : length ps ≤ n
  deleted_most = omega (arith, among, count_rest (λ x. has x ps) (range 0 n), length-range 0 n)

  pub rows_left : length (rows_but start n ps) ≡ n - length ps
  rows_left = omega (arith, rows_length, among, count_rest (λ x. has x ps) (range 0 n), length-range 0 n)

-- words as many as a run has, written over it
pub overwrite_whole : (w new : List ℕ) → length w ≡ length new → overwrite w 0 new ≡ new
unfolding overwrite
overwrite_whole w new l = rw (zero-add, ← l, drop-length w) (append-nil new)

-- the pass that writes: what has been passed, how many words are to come, and what the part comes to

abbrev kept : List ℕ → ℕ → Bool
kept ps p = not (has p ps)

abbrev place : ℕ → ℕ
place i = i

rows_of : (start n : ℕ) (ps : List ℕ) → rows_but start n ps ≡ map (λ p. start + p) (filter (kept ps) (map place (range 0 n)))
rows_of start n ps = ap (λ is. map (λ p. start + p) (filter (kept ps) is)) (map-id (range 0 n))

pub record Filling (start n : ℕ) (ps part : List ℕ) (w : List ℕ) (k j p : ℕ) : Type 0 where
  pub passed : Passed ps j p
  pub room : length w ≡ counted place (kept ps) n k p
  pub comes : overwrite part 0 (rows_but start n ps) ≡ sent place (kept ps) n (λ p. start + p) w k p

pub filling_start : {start n : ℕ} {ps : List ℕ} (part : List ℕ) → length part ≡ length (rows_but start n ps) → Filling start n ps part part 0 0 0
filling_start {start} {n} {ps} part l = record {
  passed = passed_start ps;
  room = l ∙ (ap length (rows_of start n ps) ∙ (length-map (filter (kept ps) (map place (range 0 n))) (λ p. start + p) ∙ counted_start place (kept ps) n));
  comes = ap (overwrite part 0) (rows_of start n ps) ∙ sent_start place (kept ps) n (λ p. start + p) part;
}

module _ {start n : ℕ} {ps part w : List ℕ} {k j p : ℕ} (asc : chained ltb ps ≡ true) (f : Filling start n ps part w k j p) (h : p < n)
    {b : Bool} (e : b ≡ (ltb j (length ps) && eqb (get_or ps j 0) p)) where
  pub filling_gone : b ≡ true → Filling start n ps part w k (j + 1) (p + 1)
  filling_gone t =
      let g : kept ps p ≡ false = ap not (deleted_is ps asc j p e f.passed ∙ t) in
      record {
        passed = passed_both ps asc j p e f.passed t;
        room = f.room ∙ counted_fail place (kept ps) n k p h g;
        comes = f.comes ∙ sent_fail place (kept ps) n (λ p. start + p) w k p h g;
      }

  stays : b ≡ false → kept ps p ≡ true
  stays t = ap not (deleted_is ps asc j p e f.passed ∙ t)

  pub filling_room : b ≡ false → k < length w
  filling_room t = counted_room place (kept ps) n (length w) k p f.room h (stays t)

  pub filling_kept : {x : ℕ} → b ≡ false → x ≡ start + p → Filling start n ps part (set w k x) (k + 1) j (p + 1)
  filling_kept {x} t q = record {
    passed = passed_one ps asc j p e f.passed t;
    room = length-set w k x ∙ (f.room ∙ counted_pass place (kept ps) n k p h (stays t));
    comes = f.comes ∙ sent_pass place (kept ps) n (λ p. start + p) w k p x (filling_room t) h (stays t) q;
  }

pub filling_end : {start n : ℕ} {ps part w : List ℕ} {k j p : ℕ} → length part ≡ length (rows_but start n ps) → Filling start n ps part w k j p → n ≤ p → w ≡ rows_but start n ps
filling_end {start} {n} {ps} {part} {w} {k} {j} {p} l f h = sym (sym (overwrite_whole part (rows_but start n ps) l) ∙ (f.comes ∙ sent_end place (kept ps) n (λ p. start + p) w k p h))
