-- Positions that ascend are below a number where the last is.
use Prim.Native.Nat.{ℕ, ◌-◌, ◌<◌}
use mathlib.Core.Path.{◌≡◌, refl, sym, ap, ◌∙◌}
use mathlib.Core.Bool.{Bool, true, false, ◌&&◌}
use mathlib.Core.List.{List, [], ◌∷◌, map}
use native.Mathlib.Omega.{arith}
use lib.Dec.{ltb}
use lib.ListN.{length, get_or}
use lib.Seq.{take-length}
use borrow.Author.Tests.{ltb-true, lt-ltb}
use Rattle.lists.specs.Lists.{range, all, any, chained}
use Rattle.lists.proofs.Tests.{and_same, same_test}
use Rattle.lists.proofs.Layouts.{words_one_by_one}
use Rattle.lists.proofs.Members.{all_in, in_get_d}
use Rattle.lists.proofs.Places.{at_all}
use Rattle.lists.proofs.Search.{never_falling_lem, ascending_weakly}
use Rattle.lists.proofs.Selections.{any_some}
use Rattle.ducklake.specs.Arguments.{positions_fit}

-- the words of a run, one by one
pub one_by_one : (xs : List ℕ) → map (λ l. get_or xs l 0) (range 0 (length xs)) ≡ xs
one_by_one xs = words_one_by_one (length xs) xs (omega arith) ∙ take-length xs

module _ (rows : ℕ) (ps : List ℕ) where
  last_highest : 0 < length ps → chained ltb ps ≡ true → ltb (get_or ps (length ps - 1) 0) rows ≡ all (λ p. ltb p rows) ps
  last_highest h e = same_test _ _ to (λ b. all_in (λ p. ltb p rows) ps b (in_get_d 0 ps (length ps - 1) (omega arith)))
    where
      rises : chained ltb (map (λ l. get_or ps l 0) (range 0 (length ps))) ≡ true
      rises = ap (chained ltb) (one_by_one ps) ∙ e

      to : ltb (get_or ps (length ps - 1) 0) rows ≡ true → all (λ p. ltb p rows) ps ≡ true
      to b =
          ap (all (λ p. ltb p rows)) (sym (one_by_one ps))
          ∙ at_all (λ l. get_or ps l 0) (λ p. ltb p rows) (length ps)
          (λ j k. lt-ltb (get_or ps j 0) rows (omega (arith, ltb-true (get_or ps (length ps - 1) 0) rows b, never_falling_lem (λ l. get_or ps l 0) (length ps) (ascending_weakly _ rises) j (length ps - 1) (omega arith) (omega arith))))

  pub fit_some : {a : Bool} → 0 < length ps → a ≡ chained ltb ps → (a && ltb (get_or ps (length ps - 1) 0) rows) ≡ positions_fit rows ps
  unfolding positions_fit
  fit_some h e = ap (λ b. b && ltb (get_or ps (length ps - 1) 0) rows) e ∙ (and_same (chained ltb ps) (last_highest h) ∙ sym (rw (any_some ps h) refl))

pub fit_none : (rows : ℕ) (ps : List ℕ) → length ps ≡ 0 → false ≡ positions_fit rows ps
unfolding positions_fit any
fit_none rows [] h = refl
fit_none rows (p ∷ ps) h = absurd (omega arith)
