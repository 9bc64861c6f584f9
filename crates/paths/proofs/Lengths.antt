-- So long are digits, a UUID and a path: each digit is one byte.
use Prim.Native.Nat.{ℕ, zero, suc, ◌/◌}
use mathlib.Core.Path.{◌≡◌, refl}
use native.Mathlib.Omega.{arith}
use lib.ListN.{length, length-append}
use Rattle.layout.specs.declared.record.Uuid.{Uuid}
use Rattle.ducklake.specs.Paths.{hex, uuid_text, path}
use Rattle.paths.specs.Lengths.{uuid_length, path_length}

pub hex_length : (n x : ℕ) → length (hex n x) ≡ n
hex_length zero x = refl
hex_length (suc n) x = simp (length-append, hex_length n (x / 16)) (omega arith)

pub uuid_length_lem : (u : Uuid) → length (uuid_text u) ≡ uuid_length
unfolding uuid_text
uuid_length_lem u = refl

pub path_length_lem : (u : Uuid) → length (path u) ≡ path_length
unfolding path uuid_text
path_length_lem u = refl
