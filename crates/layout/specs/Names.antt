-- Names and their places.
use Rattle.std.specs.Prelude.{ℕ, ◌*◌, ◌-◌, Bool, true, cond, not, ◌&&◌, ◌||◌, List, [], ◌∷◌, ◌++◌, leb, eqb, length, get_or, take, drop, replicate}
use Rattle.lists.specs.Lists.{all, agree}

-- "Names lie in 32-byte places of a byte run beside the table"
abbrev pub name_size : ℕ
name_size = 32

abbrev pub name_at : List ℕ → ℕ → List ℕ
name_at run i = take name_size (drop (name_size * i) run)

-- "ASCII letters, digits or underscores"
abbrev pub is_name_byte : ℕ → Bool
is_name_byte b = (leb 48 b && leb b 57) || (leb 65 b && leb b 90) || eqb b 95 || (leb 97 b && leb b 122)

abbrev pub is_zero : ℕ → Bool
is_zero b = eqb b 0

-- name bytes, and zero bytes from the first that is none on
unfoldable pub named_then_zero : List ℕ → Bool
named_then_zero [] = true
named_then_zero (b ∷ bs) = cond (is_name_byte b) (named_then_zero bs) (all is_zero (b ∷ bs))

-- a place that holds a name: "1 to 32 ASCII letters, digits or underscores", "filled with zero bytes"
unfoldable pub is_name : List ℕ → Bool
is_name place = eqb (length place) name_size && not (eqb (get_or place 0 0) 0) && named_then_zero place

-- a name as an argument, its own bytes alone
unfoldable pub is_name_argument : List ℕ → Bool
is_name_argument name = leb 1 (length name) && leb (length name) name_size && all is_name_byte name

-- the place of a name: "filled with zero bytes"
unfoldable pub padded : List ℕ → List ℕ
padded name = name ++ replicate (name_size - length name) 0

-- "Names are equal when their bytes are."
unfoldable pub same_name : List ℕ → List ℕ → Bool
same_name = agree eqb
