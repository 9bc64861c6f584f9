-- What `<` and `<=` of an id ensure, as tests of its number.
use Prim.Native.Nat.{ℕ}
use native.Mathlib.Omega.{arith}
use mathlib.Core.Path.{◌≡◌, refl, sym}
use lib.Dec.{leb, ltb, eqb}
use Rattle.std.proofs.Math.Arith.{lt_of_le-ne}
use Rattle.std.proofs.lemmas.Bool.{ltb-true, ltb-false, eqb-true, eqb-false, le-leb, lt-leb}
use Rattle.std.specs.Ordering.{is_lt, is_le, nat_cmp}
use Rattle.lists.proofs.Tests.{if}

pub is_less : (a b : ℕ) → is_lt (nat_cmp a b) ≡ ltb a b
is_less a b = if (ltb a b) (λ h. rw h refl) (λ h. if (eqb a b) (λ e. rw (h, e) refl) (λ e. rw (h, e) refl))

pub is_at_most : (a b : ℕ) → is_le (nat_cmp a b) ≡ leb a b
is_at_most a b =
    if (ltb a b)
    (λ h. rw (h, le-leb a b (omega (arith, ltb-true a b h))) refl)
    (λ h. if (eqb a b)
    (λ e. rw (h, e, le-leb a b (omega (arith, eqb-true a b e))) refl)
    (λ e. rw (h, e, lt-leb a b (lt_of_le-ne (ltb-false a b h) (λ q. eqb-false a b e (sym q)))) refl))
