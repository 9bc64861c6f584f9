-- Loops that write: elements' words into an area one after another, words moved down a run, records behind those in use. What each comes to from the present turn on.
use Prim.Native.Nat.{ℕ, suc, ◌+◌, ◌*◌, ◌≤◌, ◌<◌}
use mathlib.Core.Path.{◌≡◌, refl, sym, ap, ap₂, ◌∙◌}
use mathlib.Core.Bool.{Bool, true, false}
use mathlib.Core.List.{List, [], ◌∷◌, ◌++◌, map, flat_map}
use native.Mathlib.Omega.{arith}
use native.Mathlib.Nat.{add-zero, zero-add, add_assoc, mul-suc}
use native.Mathlib.Numerals.{add-one}
use lib.ListN.{length, length-append}
use Rattle.lists.specs.Lists.{range, filter}
use Rattle.lists.specs.Runs.{from, overwrite}
use Rattle.lists.proofs.Runs.{overwrite_none, overwrite_over}
use Rattle.lists.proofs.Loops.{from_step, from_all, filter_pass, filter_fail, filter_end}

-- words of one size for each element
pub flat_map_size : {A : Type 0} (g : A → List ℕ) (size : ℕ) → ((x : A) → length (g x) ≡ size) → (xs : List A) → length (flat_map g xs) ≡ size * length xs
unfolding flat_map
flat_map_size g size l [] = omega arith
flat_map_size g size l (x ∷ xs) = rw (length-append, l, flat_map_size g size l xs) (omega arith)

-- a loop that lays what g makes of each element that passes p into an area, behind the k words laid so far: the area, and how many words it comes to
module _ {A : Type 0} (f : ℕ → A) (p : A → Bool) (n : ℕ) (g : A → List ℕ) where
  rest : ℕ → List ℕ
  unfolding filter flat_map
  rest i = flat_map g (filter p (from f i n))

  pub laid : List ℕ → ℕ → ℕ → List ℕ × ℕ
  laid area k i = (overwrite area k (rest i), k + length (rest i))

  pub laid_start : (area : List ℕ) → ◌≡◌ {A = List ℕ × ℕ} (overwrite area 0 (flat_map g (filter p (map f (range 0 n)))), length (flat_map g (filter p (map f (range 0 n))))) (laid area 0 0)
  unfolding laid rest range filter
  laid_start area = rw (zero-add, from_all f n) refl

  rest_pass : (i : ℕ) → i < n → p (f i) ≡ true → rest i ≡ g (f i) ++ rest (i + 1)
  unfolding flat_map rest
  rest_pass i h e = rw (filter_pass f p i n h e) refl

  rest_fail : (i : ℕ) → i < n → p (f i) ≡ false → rest i ≡ rest (i + 1)
  unfolding rest
  rest_fail i h e = rw (filter_fail f p i n h e) refl

  rest_end : (i : ℕ) → n ≤ i → rest i ≡ []
  unfolding rest flat_map
  rest_end i h = rw (filter_end f p i n h) refl

  lay : (area : List ℕ) (k i : ℕ) → k ≤ length area → i < n → p (f i) ≡ true → laid area k i ≡ laid (overwrite area k (g (f i))) (k + length (g (f i))) (i + 1)
  unfolding laid
  lay area k i s h e = rw (rest_pass i h e, overwrite_over area k (g (f i)) (rest (i + 1)) s, length-append, add_assoc) refl

  pub laid_fail : (area : List ℕ) (k i : ℕ) {x : A} → x ≡ f i → i < n → p x ≡ false → laid area k i ≡ laid area k (i + 1)
  unfolding laid
  laid_fail area k i r h e = rw (rest_fail i h (ap p (sym r) ∙ e)) refl

  laid_end : (area : List ℕ) (k i : ℕ) → n ≤ i → laid area k i ≡ (area, k)
  unfolding laid
  laid_end area k i h = rw (rest_end i h, overwrite_none, add-zero) refl

  -- where the whole has room, so have the words of an element that passes
  pub laid_room : (area v : List ℕ) (k i a : ℕ) {x : A} → length (flat_map g (filter p (map f (range 0 n)))) ≤ a → laid area 0 0 ≡ laid v k i → x ≡ f i → i < n → p x ≡ true
      → k + length (g x) ≤ a
  unfolding laid
  laid_room area v k i a o s r h e =
      let t = ap (λ x. x.1) (laid_start area ∙ s) in
      omega (arith, t, ap length (rest_pass i h (ap p (sym r) ∙ e)), length-append (g (f i)) (rest (i + 1)), ap (λ y. length (g y)) r)

  -- x is what was read at the place i: its m words are laid if it passes
  pub laid_pass : (area u v : List ℕ) (k i : ℕ) {x : A} {m : ℕ} → length (flat_map g (filter p (map f (range 0 n)))) ≤ length u → laid area 0 0 ≡ laid u k i
      → x ≡ f i → i < n → p x ≡ true → m ≡ length (g x) → v ≡ overwrite u k (g x) → laid area 0 0 ≡ laid v (k + m) (i + 1)
  laid_pass area u v k i o s r h e l q =
      let room = laid_room area u k i (length u) o s r h e in
      s ∙ (lay u k i (omega arith) h (ap p (sym r) ∙ e) ∙ ap₂ (λ t m. laid t (k + m) (i + 1)) (sym (q ∙ ap (λ y. overwrite u k (g y)) r)) (sym (l ∙ ap (λ y. length (g y)) r)))

  -- the answer's length, and the area
  pub laid_done : (area v : List ℕ) (k i : ℕ) → laid area 0 0 ≡ laid v k i → n ≤ i
      → (k ≡ length (flat_map g (filter p (map f (range 0 n))))) × (v ≡ overwrite area 0 (flat_map g (filter p (map f (range 0 n)))))
  laid_done area v k i s h = let e = sym (laid_start area ∙ (s ∙ laid_end v k i h)) in (ap (λ x. x.1) e, ap (λ x. x.0) e)

-- records laid one after another behind the k records of a run: the run and the records in it once xs are laid
module _ {A : Type 0} (words : A → List ℕ) (size : ℕ) where
  pub laying : List A → List ℕ → ℕ → List ℕ × ℕ
  unfolding flat_map
  laying xs u k = (overwrite u (size * k) (flat_map words xs), k + length xs)

  pub laying_one : {x : A} {xs ys : List A} (u v : List ℕ) (k : ℕ) → xs ≡ x ∷ ys → length (words x) ≡ size → size * k ≤ length u → v ≡ overwrite u (size * k) (words x)
      → laying xs u k ≡ laying ys v (k + 1)
  unfolding laying flat_map
  laying_one {x} {xs} {ys} u v k e l h s =
      let a : size * (k + 1) ≡ size * k + length (words x) = rw (add-one, mul-suc, l) refl in
      let b : k + suc (length ys) ≡ k + 1 + length ys = omega arith in
      rw (e, s, a, ← b, overwrite_over u (size * k) (words x) (flat_map words ys) h) refl

  pub laying_end : {xs : List A} (u : List ℕ) (k : ℕ) → xs ≡ [] → laying xs u k ≡ (u, k)
  unfolding laying flat_map
  laying_end u k e = rw (e, overwrite_none, add-zero) refl

  -- where the whole has room, so has the next
  pub laying_room : {x : A} {xs ys : List A} (zs : List A) (u₀ u : List ℕ) (k₀ k : ℕ) → laying zs u₀ k₀ ≡ laying xs u k → xs ≡ x ∷ ys → k < k₀ + length zs
  unfolding laying
  laying_room zs u₀ u k₀ k s e = omega (arith, ap (λ t. t.1) s, ap length e)

  pub laying_done : (zs : List A) {xs : List A} (u₀ u : List ℕ) (k₀ k : ℕ) → laying zs u₀ k₀ ≡ laying xs u k → xs ≡ [] → (k ≡ k₀ + length zs) × (u ≡ overwrite u₀ (size * k₀) (flat_map words zs))
  unfolding laying
  laying_done zs u₀ u k₀ k s e = let t = s ∙ laying_end u k e in (sym (ap (λ x. x.1) t), sym (ap (λ x. x.0) t))

  -- those that f gives at each place below m, by a loop: from the place i on
  module _ (f : ℕ → A) (m n : ℕ) where
    pub laying_start : (u : List ℕ) → laying (map f (range 0 m)) u n ≡ laying (from f 0 m) u (n + 0)
    laying_start u = rw (add-zero, from_all f m) refl

    pub laying_next : (u v : List ℕ) (i : ℕ) → i < m → length (words (f i)) ≡ size → size * (n + i) ≤ length u → v ≡ overwrite u (size * (n + i)) (words (f i))
        → laying (from f i m) u (n + i) ≡ laying (from f (i + 1) m) v (n + (i + 1))
    laying_next u v i h l r e = laying_one u v (n + i) (from_step f i m h) l r e ∙ ap (laying (from f (i + 1) m) v) (omega arith)
