-- Column types and signed values.
use Rattle.std.specs.Prelude.{ℕ, Bool, ◌&&◌, List, [], ◌∷◌, eqb, ℤ, pos, negsuc}
use Rattle.std.specs.Int.Signed.{le_z}
use Rattle.std.specs.Int.{w64}
use Rattle.std.proofs.Common.{to_z}
use Rattle.lists.specs.Lists.{any}
use Rattle.layout.specs.declared.value.TypeRange.{TypeRange}

-- "signed 64-bit (two's complement)": the number that a word stands for
abbrev pub signed : ℕ → ℤ
signed w = to_z w64 w

abbrev pub type_range : ℕ → ℤ → ℤ → TypeRange
type_range c l h = record { code = c; low = l; high = h }

-- "Types, each with its lowest and highest value: 1 int8, 2 int16, 3 int32, 4 int64, 5 uint8, 6 uint16, 7 uint32, 8 boolean (0 to 1)."
-- The number −n − 1 is written `negsuc n`.
unfoldable pub types : List TypeRange
types =
    type_range 1 (negsuc 127) (pos 127)
    ∷ type_range 2 (negsuc 32767) (pos 32767)
    ∷ type_range 3 (negsuc 2147483647) (pos 2147483647)
    ∷ type_range 4 (negsuc 9223372036854775807) (pos 9223372036854775807)
    ∷ type_range 5 (pos 0) (pos 255)
    ∷ type_range 6 (pos 0) (pos 65535)
    ∷ type_range 7 (pos 0) (pos 4294967295)
    ∷ type_range 8 (pos 0) (pos 1)
    ∷ []

unfoldable pub is_type : ℕ → Bool
is_type code = any (λ t. eqb t.code code) types

-- a value in the range of the type of that code
unfoldable pub in_type : ℕ → ℤ → Bool
in_type code v = any (λ t. eqb t.code code && (le_z t.low v && le_z v t.high)) types

-- of two bounds of a column, as their words, the first is at most the second: bounds of every type are signed numbers
abbrev pub bound_at_most : ℕ → ℕ → ℕ → Bool
bound_at_most type_code a b = le_z (signed a) (signed b)
