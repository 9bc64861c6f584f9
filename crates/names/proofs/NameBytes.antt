-- A place judged byte by byte: behind a zero byte there are zero bytes alone, behind any other what makes a name.
use Prim.Native.Nat.{ℕ, ◌*◌, ◌+◌, ◌≤◌}
use mathlib.Core.Path.{◌≡◌, sym}
use mathlib.Core.Bool.{Bool, true, false, cond, not, ◌&&◌, ◌||◌, and_assoc, and-true}
use mathlib.Core.List.{List, [], ◌∷◌}
use lib.Dec.{eqb}
use lib.ListN.{length, get_or}
use borrow.Author.Tests.{eqb-true, eqb-false}
use Rattle.lists.specs.Lists.{all}
use Rattle.lists.proofs.Tests.{if, clash}
use Rattle.layout.specs.Names.{name_size, name_at, is_name_byte, is_zero, named_then_zero, is_name}
use Rattle.layout.proofs.Names.{name_zero, name_more}

-- what is left of a place behind the byte `before`
pub rest_named : ℕ → List ℕ → Bool
rest_named before bs = cond (eqb before 0) (all is_zero bs) (named_then_zero bs)

zero_is_none : (b : ℕ) → is_name_byte b ≡ true → eqb b 0 ≡ false
zero_is_none b h = if (eqb b 0) (λ e. clash h (rw (eqb-true b 0 e))) (λ e. e)

byte_told : (before b : ℕ) (bs : List ℕ) → rest_named before (b ∷ bs) ≡ (((is_name_byte b && not (eqb before 0)) || eqb b 0) && rest_named b bs)
unfolding rest_named named_then_zero all
byte_told before b bs =
    if (is_name_byte b)
    (λ n. if (eqb before 0) (λ z. rw (n, z, zero_is_none b n)) (λ z. rw (n, z, zero_is_none b n)))
    (λ n. if (eqb before 0) (λ z. if (eqb b 0) (λ e. rw (n, z, e)) (λ e. rw (n, z, e))) (λ z. if (eqb b 0) (λ e. rw (n, z, e)) (λ e. rw (n, z, e))))

pub rest_next : (ok : Bool) (before : ℕ) {b : ℕ} {bs cs : List ℕ} {named : Bool} → bs ≡ b ∷ cs → named ≡ is_name_byte b
    → (ok && rest_named before bs) ≡ ((ok && ((named && not (eqb before 0)) || eqb b 0)) && rest_named b cs)
rest_next ok before {b} {bs} {cs} s e = rw (s, e, byte_told before b cs) (sym (and_assoc ok _ _))

pub rest_end : (ok : Bool) (before : ℕ) {bs : List ℕ} → bs ≡ [] → (ok && rest_named before bs) ≡ ok
unfolding rest_named named_then_zero all
rest_end ok before e = rw e (if (eqb before 0) (λ z. rw z (and-true ok)) (λ z. rw z (and-true ok)))

pub rest_start : (run : List ℕ) (i : ℕ) → name_size * i + name_size ≤ length run
    → is_name (name_at run i) ≡ (not (eqb (get_or run (name_size * i) 0) 0) && rest_named (get_or run (name_size * i) 0) (name_at run i))
unfolding rest_named
rest_start run i h =
    if (eqb (get_or run (name_size * i) 0) 0)
    (λ e. rw e (name_zero run i h (eqb-true _ _ e)))
    (λ e. rw e (name_more run i h (eqb-false _ _ e)))
