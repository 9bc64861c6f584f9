-- The type of a code holds the values of that type; where there is no such type, no value has it.
use Prim.Native.Nat.{ℕ}
use mathlib.Core.Path.{◌≡◌, refl, sym, ap, ◌∙◌}
use mathlib.Core.Bool.{true, false, ◌&&◌, ◌||◌, or-false}
use borrow.Author.Tests.{ne_eqb}
use lib.Dec.{eqb}
use lib.IntN.{ℤ, pos}
use lib.ListN.{get_or}
use lib.Signed.{le_z}
use Rattle.lists.proofs.Members.{in_any}
use Rattle.lists.proofs.Selections.{any_none}
use Rattle.lists.proofs.Tests.{if, clash}
use Rattle.layout.specs.declared.value.TypeRange.{TypeRange}
use Rattle.layout.specs.Types.{type_range, types, is_type, in_type}
use Rattle.column_types.specs.Ranges.{HasType, HasNoType}

-- at the code of a type in the list, the list computes to the test of that type
module _ (i : ℕ) where
  abbrev type : TypeRange
  type = get_or types i (type_range 0 (pos 0) (pos 0))

  pub of_type : {code : ℕ} → code ≡ type.code → is_type type.code ≡ true
      → ((v : ℤ) → in_type type.code v ≡ ((le_z type.low v && le_z v type.high) || false)) → HasType code type
  of_type e f g = record {
    known = ap is_type e ∙ f;
    range = λ v. ap (λ n. in_type n v) e ∙ (g v ∙ or-false (le_z type.low v && le_z v type.high));
  }

pub other : {code : ℕ} (k : ℕ) → (code ≡ k → ⊥) → eqb k code ≡ false
other k h = ne_eqb k _ (λ e. h (sym e))

pub of_none : (code : ℕ) → is_type code ≡ false → HasNoType code
unfolding is_type in_type
of_none code h = record {
  unknown = h;
  empty = λ v. any_none _ types (λ t m. if (eqb t.code code) (λ e. clash (in_any (λ t. eqb t.code code) m e) h) (λ e. rw e refl));
}
