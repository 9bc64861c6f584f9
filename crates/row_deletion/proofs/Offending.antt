-- Two ascending lists, passed through together: the first of the one that is in the other.
use Rattle.std.specs.Prelude.{None, Option, Some}
use Prim.Native.Nat.{ℕ, suc, ◌+◌, ◌≤◌, ◌<◌}
use mathlib.Core.Path.{◌≡◌, refl, sym, ap, ap₂, ◌∙◌}
use mathlib.Core.Bool.{Bool, true, cond}
use mathlib.Core.List.{List, [], ◌∷◌}
use native.Mathlib.Omega.{arith}
use lib.Dec.{ltb}
use lib.ListN.{length, get_or}
use borrow.Author.Tests.{eq-eqb, ne_eqb}
use Rattle.lists.specs.Lists.{any, chained, has, place}
use Rattle.lists.specs.Runs.{from}
use Rattle.lists.proofs.Members.{In, here, next}
use Rattle.lists.proofs.Loops.{from_all, from_step, from_end, place_hit, place_miss, place_end}
use Rattle.lists.proofs.Places.{in_from, place_nothing}
use Rattle.lists.proofs.Search.{never_falling_lem, ascending_weakly}
use Rattle.lists.proofs.Selections.{any_none}
use Rattle.row_deletion.proofs.Fits.{one_by_one}

place_ext : {A : Type 0} (p q : A → Bool) (i : ℕ) (xs : List A) → ((x : A) → In x xs → p x ≡ q x) → place p i xs ≡ place q i xs
unfolding place
place_ext p q i [] h = refl
place_ext p q i (x ∷ xs) h = ap₂ (λ b r. cond b (Some i) r) (h x (here refl)) (place_ext p q (suc i) xs (λ y m. h y (next m)))

module _ (ds ps : List ℕ) where
  -- the place of the first from i on that is one of those from j on
  pub offending : ℕ → ℕ → Option ℕ
  unfolding place any
  offending i j = place (λ p. has p (from (λ l. get_or ds l 0) j (length ds))) i (from (λ l. get_or ps l 0) i (length ps))

  pub offending_start : place (λ p. has p ds) 0 ps ≡ offending 0 0
  unfolding offending
  offending_start = ap₂ (λ xs ys. place (λ p. has p xs) 0 ys) (sym (one_by_one ds) ∙ from_all _ (length ds)) (sym (one_by_one ps) ∙ from_all _ (length ps))

  pub offending_end : (i j : ℕ) → length ps ≤ i → offending i j ≡ None
  unfolding offending
  offending_end i j h = place_end _ _ i (length ps) h

  pub offending_past : (i j : ℕ) → length ds ≤ j → offending i j ≡ None
  unfolding offending any
  offending_past i j h = place_nothing _ i (from (λ l. get_or ps l 0) i (length ps)) (λ p m. rw (from_end (λ l. get_or ds l 0) j (length ds) h) refl)

  module _ (i j : ℕ) (h : i < length ps) (k : j < length ds) where
    pub offending_here : get_or ps i 0 ≡ get_or ds j 0 → offending i j ≡ Some i
    unfolding offending any
    offending_here e = place_hit (λ l. get_or ps l 0) _ i (length ps) h (rw (from_step (λ l. get_or ds l 0) j (length ds) k, eq-eqb (get_or ps i 0) (get_or ds j 0) e) refl)

    -- the position is lower than all that are left, or the deleted one is
    pub offending_less : chained ltb ds ≡ true → get_or ps i 0 < get_or ds j 0 → offending i j ≡ offending (i + 1) j
    unfolding offending
    offending_less o l = place_miss (λ p. get_or ps p 0) _ i (length ps) h (any_none _ (from (λ l. get_or ds l 0) j (length ds)) (λ y m. ne_eqb (get_or ps i 0) y (λ (e : get_or ps i 0 ≡ y). lower y m e)))
      where
        lower : (y : ℕ) → In y (from (λ l. get_or ds l 0) j (length ds)) → get_or ps i 0 ≡ y → ⊥
        lower y m e =
            let r = in_from (λ l. get_or ds l 0) j (length ds) m in
            omega (arith, e, r.3, never_falling_lem (λ l. get_or ds l 0) (length ds) (ascending_weakly _ (ap (chained ltb) (one_by_one ds) ∙ o)) j r.0 r.1 r.2)

    pub offending_more : chained ltb ps ≡ true → get_or ds j 0 < get_or ps i 0 → offending i j ≡ offending i (j + 1)
    unfolding offending any
    offending_more o l = place_ext _ _ i (from (λ l. get_or ps l 0) i (length ps)) (λ x m. rw (from_step (λ l. get_or ds l 0) j (length ds) k, ne_eqb x (get_or ds j 0) (λ (e : x ≡ get_or ds j 0). higher x m e)) refl)
      where
        higher : (x : ℕ) → In x (from (λ l. get_or ps l 0) i (length ps)) → x ≡ get_or ds j 0 → ⊥
        higher x m e =
            let r = in_from (λ l. get_or ps l 0) i (length ps) m in
            omega (arith, e, r.3, never_falling_lem (λ l. get_or ps l 0) (length ps) (ascending_weakly _ (ap (chained ltb) (one_by_one ps) ∙ o)) i r.0 r.1 r.2)
