-- The path of a file.
use Rattle.std.specs.Prelude.{ℕ, zero, suc, ◌+◌, ◌/◌, ◌%◌, ◌^◌, cond, List, [], ◌∷◌, ◌++◌, ltb}
use Rattle.layout.specs.declared.record.Uuid.{Uuid}

-- the ASCII byte of a lower-case hexadecimal digit
abbrev pub hex_digit : ℕ → ℕ
hex_digit d = cond (ltb d 10) (48 + d) (87 + d)

-- the last n hexadecimal digits of a number
abbrev pub hex : ℕ → ℕ → List ℕ
hex zero x = []
hex (suc n) x = hex n (x / 16) ++ (hex_digit (x % 16) ∷ [])

abbrev pub dash : List ℕ
dash = 45 ∷ []

-- "UUID in lower-case hexadecimal (8-4-4-4-12)"
unfoldable pub uuid_text : Uuid → List ℕ
uuid_text u =
    hex 8 (u.high / 2 ^ 32) ++ dash ++ hex 4 (u.high / 2 ^ 16) ++ dash ++ hex 4 u.high ++ dash ++ hex 4 (u.low / 2 ^ 48) ++ dash
    ++ hex 12 u.low

-- "A path is `ducklake-{uuid}.parquet`"
unfoldable pub path : Uuid → List ℕ
path u =
    100 ∷ 117 ∷ 99 ∷ 107 ∷ 108 ∷ 97 ∷ 107 ∷ 101 ∷ 45 ∷ [] ++ uuid_text u ++ 46 ∷ 112 ∷ 97 ∷ 114 ∷ 113 ∷ 117 ∷ 101 ∷ 116 ∷ []
