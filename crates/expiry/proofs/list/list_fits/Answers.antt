-- `list_fits` meets its contract: an empty list has length 0.
use Prim.Native.Nat.{ℕ}
use mathlib.Core.Path.{◌≡◌, refl, sym, ap, ◌∙◌}
use mathlib.Core.Bool.{false, not}
use mathlib.Core.List.{List, [], ◌∷◌}
use native.Mathlib.Omega.{arith}
use borrow.Author.Tests.{eqb-true, eqb-false}
use lib.Dec.{ltb}
use lib.ListN.{length}
use Rattle.lists.specs.Lists.{any, chained}
use Rattle.ducklake.specs.Arguments.{expiry_list_fits}
use Rattle.expiry.proofs.list.list_fits.Goals as goal

fits_not : (ids : List ℕ) → length ids ≡ 0 → expiry_list_fits ids ≡ false
unfolding expiry_list_fits any
fits_not [] e = refl
fits_not (x ∷ xs) e = absurd (omega (arith, e))

fits_some : (ids : List ℕ) → (length ids ≡ 0 → ⊥) → chained ltb ids ≡ expiry_list_fits ids
unfolding expiry_list_fits any
fits_some [] e = absurd (e refl)
fits_some (x ∷ xs) e = refl

pub returns-then-not-is_empty : goal.returns-then-not-is_empty
returns-then-not-is_empty c =
    c.words_ascend.ensures ∙ fits_some c.args.ids.now (eqb-false _ _ (sym c.is_empty.ensures ∙ c.if-not-is_empty.true))

pub returns-else-not-is_empty : goal.returns-else-not-is_empty
returns-else-not-is_empty c =
    ap not c.if-not-is_empty.false ∙ sym (fits_not c.args.ids.now (eqb-true _ _ (sym c.is_empty.ensures ∙ c.if-not-is_empty.false)))
