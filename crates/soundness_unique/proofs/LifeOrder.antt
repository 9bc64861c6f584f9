-- Keys by their first words and then by begin: where records that follow each other are apart, all are, since no life is empty.
use Prim.Native.Nat.{ℕ, ◌+◌, ◌*◌, ◌≤◌, ◌<◌}
use mathlib.Core.Path.{◌≡◌, refl, sym, ap, ap₂, ◌∙◌}
use mathlib.Core.Bool.{true, not, ◌&&◌, ◌||◌, and-false, and_comm}
use mathlib.Core.List.{List, [], ◌∷◌, ◌++◌}
use mathlib.Core.Logic.{◌⊎◌, inl, inr}
use native.Mathlib.Omega.{arith}
use lib.Dec.{leb, ltb, eqb}
use lib.ListN.{length, get_or}
use borrow.Author.Tests.{ltb-true, lt-ltb, le-ltb, eqb-true, le-leb, leb-true, leb-false, not-true}
use Rattle.std.specs.Borrow.{Bor}
use Rattle.lists.specs.Lists.{all}
use Rattle.lists.specs.Runs.{field}
use Rattle.lists.proofs.Tests.{Reflects, if, either, both, and, clash, or_left, or_right, or_cases, reflects_it, reflects_implies}
use Rattle.lists.proofs.Loops.{from_step, from_end, from_length}
use Rattle.lists.proofs.Places.{from_split}
use Rattle.ducklake.specs.Soundness.{overlap}
use Rattle.sorting.specs.Colliding.{prefix_at, same_prefix}
use Rattle.sorting.specs.Keys.{key_at, at_most, same_words, in_order}
use Rattle.sorting.specs.Ordered.{Decided}
use Rattle.sorting.proofs.Groups.{groups_between}
use Rattle.sorting.proofs.KeyOrder.{same_words_lem, same_swap, most_between}
use Rattle.soundness_unique.specs.Naming.{keys_apart, Living, keyed_at}

-- a word more behind lists of one length: the lists are in order, and where they are equal so are the words
most_before : (xs ys : List ℕ) (x y : ℕ) → length xs ≡ length ys → at_most (xs ++ (x ∷ [])) (ys ++ (y ∷ [])) ≡ true → (at_most xs ys ≡ true) × (xs ≡ ys → x ≤ y)
unfolding at_most
most_before [] [] x y l h =
    (refl, λ _. either (or_cases (ltb x y) (eqb x y && true) h) (λ k. omega (arith, ltb-true x y k)) (λ k. omega (arith, eqb-true x y (both (eqb x y) true k).0)))
most_before [] (b ∷ ys) x y l h = absurd (omega arith)
most_before (a ∷ xs) [] x y l h = absurd (omega arith)
most_before (a ∷ xs) (b ∷ ys) x y l h =
    either (or_cases (ltb a b) (eqb a b && at_most (xs ++ (x ∷ [])) (ys ++ (y ∷ []))) h)
    (λ k. (or_left (ltb a b) _ k, λ e. let q : a ≡ b = ap (λ zs. get_or zs 0 0) e in absurd (omega (arith, ltb-true a b k))))
    (λ k. let p = both (eqb a b) (at_most (xs ++ (x ∷ [])) (ys ++ (y ∷ []))) k in
    let r = most_before xs ys x y (omega arith) p.1 in
    (or_right (ltb a b) (eqb a b && at_most xs ys) (and p.0 r.0), λ e. r.1 (cc e)))

same_between : (xs ys zs : List ℕ) → at_most xs ys ≡ true → at_most ys zs ≡ true → same_words xs zs ≡ true → (same_words xs ys ≡ true) × (same_words ys zs ≡ true)
same_between xs ys zs g h e =
    let q = same_words_lem xs zs e in
    let m = most_between xs ys zs g h q in
    (rw (sym q ∙ m) at e, rw m at e)

-- two lives share no number just where one ends before the other begins
apart_told : (b e c f : ℕ) → Reflects (not (ltb b f && ltb c e)) ((leb e c ≡ true) ⊎ (leb f b ≡ true))
apart_told b e c f = record {
  to = λ h. if (leb e c) (λ k. inl k)
      (λ k. if (leb f b) (λ l. inr l) (λ l. clash (and (lt-ltb b f (leb-false f b l)) (lt-ltb c e (leb-false e c k))) (not-true (ltb b f && ltb c e) h)));
  from = λ h. either h (λ k. rw (le-ltb c e (leb-true e c k), and-false)) (λ k. rw (le-ltb b f (leb-true f b k)));
}

module _ (used : ℕ) (keys : List ℕ) (size begin : ℕ) (run : List ℕ) {n : ℕ} (h : Living size begin run n) where
  abbrev first_words : ℕ → List ℕ
  first_words i = prefix_at used (used + 1) keys i

  abbrev last_word : ℕ → ℕ
  last_word i = field (used + 1) used keys i

  key_split : (i : ℕ) → key_at (used + 1) keys i ≡ first_words i ++ (last_word i ∷ [])
  key_split i =
      let f : ℕ → ℕ = λ k. field (used + 1) k keys i in
      from_split f 0 used (used + 1) (omega arith) (omega arith) ∙ ap (λ ws. first_words i ++ ws) (from_step f used (used + 1) (omega arith) ∙ ap (λ ws. last_word i ∷ ws) (from_end f (used + 1) (used + 1) (omega arith)))

  -- of two keys in order
  order_told : (i j : ℕ) → in_order (used + 1) keys i j ≡ true → (at_most (first_words i) (first_words j) ≡ true) × (first_words i ≡ first_words j → last_word i ≤ last_word j)
  order_told i j o =
      most_before (first_words i) (first_words j) (last_word i) (last_word j) (from_length (λ k. field (used + 1) k keys i) 0 used ∙ sym (from_length (λ k. field (used + 1) k keys j) 0 used))
      (rw (key_split i, key_split j) at o)

  abbrev starts : ℕ → ℕ
  starts i = field size begin run i

  abbrev ends : ℕ → ℕ
  ends i = field size (begin + 1) run i

  told : (i j : ℕ) → Reflects (keys_apart used keys size begin run i j) (same_prefix used (used + 1) keys i j ≡ true → (leb (ends i) (starts j) ≡ true) ⊎ (leb (ends j) (starts i) ≡ true))
  unfolding overlap
  told i j = reflects_implies (reflects_it _) (apart_told (starts i) (ends i) (starts j) (ends j))

  flip : (i j : ℕ) → keys_apart used keys size begin run i j ≡ keys_apart used keys size begin run j i
  unfolding overlap
  flip i j =
      ap₂ (λ s t. not s || not t) (same_swap (first_words i) (first_words j)) (and_comm (ltb (starts i) (ends j)) (ltb (starts j) (ends i)))

  keyed : (i : ℕ) → keyed_at used keys size begin run n i ≡ true → (i < n) × (last_word i ≡ starts i)
  keyed i k = let b = both (ltb i n) (eqb (last_word i) (starts i)) k in (ltb-true i n b.0, eqb-true (last_word i) (starts i) b.1)

  lives : (i : ℕ) → keyed_at used keys size begin run n i ≡ true → starts i < ends i
  lives i k = h.lives i (keyed i k).0

  -- of two in order, the first begins first
  forward : (i j : ℕ) → keyed_at used keys size begin run n i ≡ true → keyed_at used keys size begin run n j ≡ true → in_order (used + 1) keys i j ≡ true
      → same_prefix used (used + 1) keys i j ≡ true → leb (ends j) (starts i) ≡ true → leb (ends i) (starts j) ≡ true
  forward i j k l o e b =
      absurd (omega (arith, (order_told i j o).1 (same_words_lem (first_words i) (first_words j) e), (keyed i k).1, (keyed j l).1, leb-true (ends j) (starts i) b, lives j l))

  lives_between : (a b c : ℕ) → keyed_at used keys size begin run n a ≡ true → keyed_at used keys size begin run n b ≡ true → keyed_at used keys size begin run n c ≡ true
      → in_order (used + 1) keys a b ≡ true → in_order (used + 1) keys b c ≡ true → keys_apart used keys size begin run a b ≡ true → keys_apart used keys size begin run b c ≡ true
      → keys_apart used keys size begin run a c ≡ true
  lives_between =
      groups_between (in_order (used + 1) keys) (keys_apart used keys size begin run) (same_prefix used (used + 1) keys) (λ i j. leb (ends i) (starts j)) (keyed_at used keys size begin run n)
      told (λ a b c k l. same_between (first_words a) (first_words b) (first_words c) (order_told a b k).0 (order_told b c l).0)
      forward (λ a b c k s t. le-leb (ends a) (starts c) (omega (arith, leb-true (ends a) (starts b) s, leb-true (ends b) (starts c) t, lives b k)))

-- so those that follow each other decide, by keys of which the begin is the last word
pub lives_decided : (used : ℕ) (keys : Bor (List ℕ)) (size begin : ℕ) (run : List ℕ) {n : ℕ} → Living size begin run n → (xs : List ℕ) → all (keyed_at used keys.now size begin run n) xs ≡ true
    → Decided (record { words = keys; size = used + 1 }) used (keys_apart used keys.now size begin run) xs
lives_decided used keys size begin run {n} h xs m = record {
  passes = keyed_at used keys.now size begin run n;
  pass = m;
  swapped = flip used keys.now size begin run h;
  other = λ i j _ _ e. rw e refl;
  between = lives_between used keys.now size begin run h;
}
