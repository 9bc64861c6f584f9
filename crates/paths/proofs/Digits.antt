-- Digits that are written from the last to the first: the last one stands there, and those before it are still to be written.
use Prim.Native.Nat.{ℕ, zero, suc, ◌+◌, ◌-◌, ◌/◌, ◌%◌, ◌≤◌, ◌<◌}
use mathlib.Core.Path.{◌≡◌, refl, ◌∙◌}
use mathlib.Core.List.{List, [], ◌∷◌, ◌++◌, append_assoc}
use native.Mathlib.Omega.{arith}
use lib.ListN.{length, drop, set, length-set, length-append}
use lib.Seq.{take-set-le, drop-set-lt, drop-cons, get_or-set_same}
use Rattle.lists.specs.Runs.{overwrite}
use Rattle.ducklake.specs.Paths.{hex_digit, hex}
use Rattle.paths.proofs.Lengths.{hex_length}

-- the last word of what is to be written is written
overwrite_last : (w : List ℕ) (k : ℕ) (xs : List ℕ) (v m : ℕ) → length xs ≡ m → k + m < length w → overwrite w k (xs ++ (v ∷ [])) ≡ overwrite (set w (k + m) v) k xs
unfolding overwrite
overwrite_last w k xs v m e h =
    rw (take-set-le k w (k + m) v (omega arith), length-append, e, at_last, append_assoc, ends) refl
  where
    ends : k + (m + 1) ≡ suc (k + m)
    ends = omega arith

    at_last : drop (k + m) (set w (k + m) v) ≡ v ∷ drop (suc (k + m)) w
    at_last = drop-cons (set w (k + m) v) (k + m) 0 (rw length-set h) ∙ rw (get_or-set_same w (k + m) v 0 h, drop-set-lt (suc (k + m)) w (k + m) v (omega arith)) refl

pub digit_next : (w : List ℕ) (k n x : ℕ) {d : ℕ} → d ≡ hex_digit (x % 16) → 0 < n → k + n ≤ length w
    → overwrite w k (hex n x) ≡ overwrite (set w (k + (n - 1)) d) k (hex (n - 1) (x / 16))
digit_next w k zero x e z h = absurd (omega arith)
digit_next w k (suc n) x e z h = let m : suc n - 1 ≡ n = omega arith in rw (m, ← e) (overwrite_last w k (hex n (x / 16)) _ n (hex_length n (x / 16)) (omega arith))
