-- A code and the type of that code.
use Rattle.std.specs.Prelude.{ℕ, ◌≡◌, true, false, ◌&&◌, ℤ}
use Rattle.std.specs.Int.Signed.{le_z}
use Rattle.layout.specs.declared.value.TypeRange.{TypeRange}
use Rattle.layout.specs.Types.{is_type, in_type}

-- the type of a code: a value has the type where it is in its range
pub record HasType (code : ℕ) (t : TypeRange) : Type 0 where
  pub known : is_type code ≡ true
  pub range : (v : ℤ) → in_type code v ≡ (le_z t.low v && le_z v t.high)

-- a code of no type, which no value has
pub record HasNoType (code : ℕ) : Type 0 where
  pub unknown : is_type code ≡ false
  pub empty : (v : ℤ) → in_type code v ≡ false
