-- The answers of a list in its one area: each behind those before it, and left by those behind it.
use Prim.Native.Nat.{ℕ, zero, suc, ◌+◌, ◌-◌, ◌*◌, ◌≤◌, ◌<◌}
use mathlib.Core.Path.{◌≡◌, refl, sym, ap, ap₂, subst, ◌∙◌}
use mathlib.Core.List.{List, [], ◌∷◌, ◌++◌, map}
use native.Mathlib.Omega.{arith}
use native.Mathlib.Nat.{zero-add, add-zero}
use lib.ListN.{length, take, drop, length-append, length-drop}
use lib.Seq.{length-take-le, take-append-le, take-take, take-add, drop_at}
use Rattle.lists.specs.Lists.{range, sum}
use Rattle.lists.proofs.Places.{range_split}
use Rattle.lists.proofs.Selections.{map-append}
use Rattle.layout.specs.declared.outcome.Counts.{Counts}
use Rattle.layout.specs.Words.{Words}
use Rattle.ducklake.specs.Calls.{Result}
use Rattle.call_lists.specs.Playing.{Played, left, result_on, told_size, Tells, asked, played, result}
use Rattle.call_lists.specs.Demand.{length_told, answer_start}
use Rattle.call_lists.proofs.Sessions.{asked_area}

-- n words behind k, by what stands up to their end
behind : (k n : ℕ) (xs : List ℕ) → k ≤ length xs → drop k (take (k + n) xs) ≡ take n (drop k xs)
behind k n xs h = ap (drop k) (take-add k n xs) ∙ drop_at (take k xs) (take n (drop k xs)) k (length-take-le k xs h)

sum_last : (xs : List ℕ) (x : ℕ) → sum (xs ++ (x ∷ [])) ≡ sum xs + x
unfolding sum
sum_last [] x = omega arith
sum_last (y ∷ ys) x = omega (arith, sum_last ys x)

module _ (calls lists names : List ℕ) (w : Words) (c : Counts) (a : List ℕ) where
  abbrev at : ℕ → Played
  at = played calls lists names w c a

  abbrev gives : ℕ → Result
  gives = result calls lists names w c a

  -- the answers so far are words of the area, which stays as long as it is
  pub room : (i : ℕ) → (at i).answered ≤ length (at i).area
  unfolding played result_on
  room zero = omega arith
  room (suc i) =
      let f = asked_area (asked calls lists names w c a i) (at i).words (at i).counts (left (at i)) in
      omega (arith, room i, f.answer, f.area, length-drop (at i).answered (at i).area, length-append (take (at i).answered (at i).area) (gives i).area, length-take-le (at i).answered (at i).area (room i))

  -- what record i leaves of its area
  pub area_left_lem : (i : ℕ) → drop (at i).answered (at (suc i)).area ≡ (gives i).area
  unfolding played
  area_left_lem i = drop_at (take (at i).answered (at i).area) (gives i).area (at i).answered (length-take-le (at i).answered (at i).area (room i))

  longer : (i m : ℕ) → (at i).answered ≤ (at (i + m)).answered
  unfolding played
  longer i zero = omega (arith, ap (λ j. (at j).answered) (add-zero i))
  longer i (suc m) = let e : i + suc m ≡ suc (i + m) = omega arith in subst (λ (j : ℕ). (at i).answered ≤ (at j).answered) (sym e) (omega (arith, longer i m))

  -- words that are answers stay
  stays : (i m k : ℕ) → k ≤ (at i).answered → take k (at (i + m)).area ≡ take k (at i).area
  unfolding played
  stays i zero k h = ap (λ j. take k (at j).area) (add-zero i)
  stays i (suc m) k h =
      let e : i + suc m ≡ suc (i + m) = omega arith in
      let l = longer i m in
      let n = length-take-le (at (i + m)).answered (at (i + m)).area (room (i + m)) in
      ap (λ j. take k (at j).area) e
      ∙ (take-append-le k (take (at (i + m)).answered (at (i + m)).area) (gives (i + m)).area (omega (arith, h, l, n))
      ∙ (take-take k (at (i + m)).answered (at (i + m)).area (omega (arith, h, l)) ∙ stays i m k h))

  -- so the answer of record i stands in the area that a list of n records leaves
  pub answer_left : (i n : ℕ) → i < n → take (gives i).length (drop (at i).answered (at n).area) ≡ take (gives i).length (drop (at i).answered (at (suc i)).area)
  unfolding played
  answer_left i n h =
      let e : suc i + (n - suc i) ≡ n = omega (arith, h) in
      let l = longer i (n - i) in
      let g : i + (n - i) ≡ n = omega (arith, h) in
      let k = (at i).answered in
      let m = (gives i).length in
      let s : take (k + m) (at n).area ≡ take (k + m) (at (suc i)).area = subst (λ (j : ℕ). take (k + m) (at j).area ≡ take (k + m) (at (suc i)).area) e (stays (suc i) (n - suc i) (k + m) (omega arith)) in
      sym (behind k m (at n).area (omega (arith, room n, subst (λ (j : ℕ). k ≤ (at j).answered) g l)))
      ∙ (ap (drop k) s ∙ behind k m (at (suc i)).area (omega (arith, room (suc i))))

  -- where it begins is told
  pub starts : (t' : List ℕ) (n : ℕ) → ((i : ℕ) → i < n → Tells (gives i) t' (told_size * i)) → (i : ℕ) → i ≤ n → answer_start t' i ≡ (at i).answered
  unfolding played answer_start sum range
  starts t' n told zero h = refl
  starts t' n told (suc i) h =
      let e : suc i ≡ i + 1 = omega arith in
      let r : range 0 (suc i) ≡ range 0 i ++ (i ∷ []) = ap (range 0) e ∙ (range_split 0 i 1 ∙ ap (λ (j : ℕ). range 0 i ++ (j ∷ [])) (zero-add i)) in
      ap (λ js. sum (map (length_told t') js)) r
      ∙ (ap sum (map-append (length_told t') (range 0 i) (i ∷ []))
      ∙ (sum_last (map (length_told t') (range 0 i)) (length_told t' i)
      ∙ ap₂ ◌+◌ (starts t' n told i (omega (arith, h))) (told i h).length))
