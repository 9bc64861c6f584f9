-- A name that is an argument, filled with zero bytes, is a name in its place.
use Prim.Native.Nat.{ℕ, zero, suc, ◌-◌, ◌≤◌}
use mathlib.Core.Path.{◌≡◌, refl, ap, ◌∙◌}
use mathlib.Core.Bool.{true, not, ◌&&◌}
use mathlib.Core.List.{List, [], ◌∷◌, ◌++◌}
use native.Mathlib.Omega.{arith}
use lib.Dec.{leb, eqb}
use lib.ListN.{length, get_or, replicate, length-append, length-replicate}
use borrow.Author.Tests.{leb-true, eqb-true, eq-eqb}
use Rattle.lists.specs.Lists.{all}
use Rattle.lists.proofs.Tests.{if, clash, both, and}
use Rattle.layout.specs.Names.{name_size, is_name_byte, is_zero, named_then_zero, is_name, is_name_argument, padded}

zeros : (n : ℕ) → all is_zero (replicate n 0) ≡ true
unfolding all
zeros zero = refl
zeros (suc n) = zeros n

zeros_named : (n : ℕ) → named_then_zero (replicate n 0) ≡ true
unfolding all named_then_zero
zeros_named zero = refl
zeros_named (suc n) = zeros n

padded_named : (n : ℕ) (name : List ℕ) → all is_name_byte name ≡ true → named_then_zero (name ++ replicate n 0) ≡ true
unfolding all named_then_zero
padded_named n [] h = zeros_named n
padded_named n (b ∷ bs) h =
    let k = both (is_name_byte b) (all is_name_byte bs) h in
    rw k.0 (padded_named n bs k.1)

padded_front : (n : ℕ) (name : List ℕ) → 1 ≤ length name → all is_name_byte name ≡ true → not (eqb (get_or (name ++ replicate n 0) 0 0) 0) ≡ true
unfolding all
padded_front n [] l h = absurd (omega arith)
padded_front n (b ∷ bs) l h =
    if (eqb b 0)
    (λ e. clash (both (is_name_byte b) (all is_name_byte bs) h).0 (ap is_name_byte (eqb-true b 0 e)))
    (λ e. rw e)

pub padded_is_name : (name : List ℕ) → is_name_argument name ≡ true → is_name (padded name) ≡ true
unfolding is_name_argument is_name padded
padded_is_name name h =
    let a = both (leb 1 (length name) && leb (length name) name_size) (all is_name_byte name) h in
    let b = both (leb 1 (length name)) (leb (length name) name_size) a.0 in
    let l : 1 ≤ length name = leb-true 1 (length name) b.0 in
    let u : length name ≤ 32 = leb-true (length name) name_size b.1 in
    let n : ℕ = name_size - length name in
    let s : length (name ++ replicate n 0) ≡ name_size = length-append name (replicate n 0) ∙ omega (arith, length-replicate {A = ℕ} n 0) in
    and (and (eq-eqb (length (name ++ replicate n 0)) name_size s) (padded_front n name l a.1)) (padded_named n name a.1)
