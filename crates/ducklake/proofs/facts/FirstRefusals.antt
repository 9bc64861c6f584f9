-- Refusals in a row: what the first that fails comes to.
use Prim.Native.Nat.{ℕ, ◌≤◌}
use mathlib.Core.Path.{◌≡◌, refl, sym, ap, ◌∙◌}
use mathlib.Core.Bool.{Bool, true, false, cond, not, ◌&&◌}
use mathlib.Core.List.{List, [], ◌∷◌, ◌++◌}
use native.Mathlib.Omega.{arith}
use lib.Dec.{eqb}
use borrow.Author.Tests.{eq-eqb, ne_eqb}
use Rattle.lists.specs.Lists.{all, pairwise}
use Rattle.lists.proofs.Tests.{if, both, clash}
use Rattle.ducklake.specs.Refusals.{refuse_unless, first}

-- a test before the rest comes to 0 just where it is passed and the rest is 0
pub unless_passed : (n : ℕ) (b : Bool) (rest : ℕ) → 1 ≤ n → refuse_unless n b rest ≡ 0 → (b ≡ true) × (rest ≡ 0)
unless_passed n true rest l h = (refl, h)
unless_passed n false rest l h = absurd (omega arith)

-- no number is below this one
abbrev pub NumberedFrom : ℕ → List (ℕ × Bool) → Type 0
NumberedFrom least [] = Unit {0}
NumberedFrom least (t ∷ ts) = (least ≤ t.0) × NumberedFrom least ts

pub numbered_append : (least : ℕ) (ts us : List (ℕ × Bool)) → NumberedFrom least ts → NumberedFrom least us → NumberedFrom least (ts ++ us)
numbered_append least [] us n m = m
numbered_append least (t ∷ ts) us n m = (n.0, numbered_append least ts us n.1 m)

pub first_append : (ts us : List (ℕ × Bool)) (rest : ℕ) → first (ts ++ us) rest ≡ first ts (first us rest)
first_append [] us rest = refl
first_append (t ∷ ts) us rest = ap (refuse_unless t.0 t.1) (first_append ts us rest)

-- refusals come to 0 just where each test is passed and the rest is 0
pub first_zero : (ts : List (ℕ × Bool)) (rest : ℕ) → NumberedFrom 1 ts → first ts rest ≡ 0 → (first ts 0 ≡ 0) × (rest ≡ 0)
first_zero [] rest n h = (refl, h)
first_zero (t ∷ ts) rest n h =
    let z = unless_passed t.0 t.1 (first ts rest) n.0 h in
    let r = first_zero ts rest n.1 z.1 in
    (rw z.0 r.0, r.1)

pub first_all : (ts : List (ℕ × Bool)) → NumberedFrom 1 ts → eqb (first ts 0) 0 ≡ all (λ t. t.1) ts
unfolding all
first_all [] n = refl
first_all (t ∷ ts) n = if t.1 (λ e. rw e (first_all ts n.1)) (λ e. rw e (ne_eqb t.0 0 (λ (z : t.0 ≡ 0). omega (arith, n.0, z))))

-- what must hold for a number
abbrev pub test_of : List (ℕ × Bool) → ℕ → Bool
test_of [] number = true
test_of (t ∷ ts) number = cond (eqb t.0 number) t.1 (test_of ts number)

-- each test is passed
abbrev pub AllPassed : List (ℕ × Bool) → Type 0
AllPassed ts = (number : ℕ) → test_of ts number ≡ true

pub first_passed : (ts : List (ℕ × Bool)) → NumberedFrom 1 ts → first ts 0 ≡ 0 → AllPassed ts
first_passed [] n h number = refl
first_passed (t ∷ ts) n h number =
    let z = unless_passed t.0 t.1 (first ts 0) n.0 h in
    if (eqb t.0 number) (λ e. rw e z.0) (λ e. rw e (first_passed ts n.1 z.1 number))

-- the lines before that of a number
abbrev pub lines_before : ℕ → List (ℕ × Bool) → List (ℕ × Bool)
lines_before number [] = []
lines_before number (t ∷ ts) = cond (eqb t.0 number) [] (t ∷ lines_before number ts)

-- at most one line has the number
abbrev pub stands_once : ℕ → List (ℕ × Bool) → Bool
stands_once number ts = pairwise (λ t u. not (eqb t.0 number && eqb u.0 number)) ts

-- a number that no line has refuses nothing
none_refuses : (number : ℕ) (ts : List (ℕ × Bool)) → 1 ≤ number → all (λ t. not (eqb t.0 number)) ts ≡ true → first ts 0 ≡ number → ⊥
unfolding all
none_refuses number [] l a h = omega arith
none_refuses number ((k, true) ∷ ts) l a h = none_refuses number ts l (both (not (eqb k number)) (all (λ t. not (eqb t.0 number)) ts) a).1 h
none_refuses number ((k, false) ∷ ts) l a h = clash (both (not (eqb k number)) (all (λ t. not (eqb t.0 number)) ts) a).0 (ap not (eq-eqb k number h))

-- refused with a number: each line before that of the number is passed, and that one is not
pub first_refused : (number : ℕ) (ts : List (ℕ × Bool)) → 1 ≤ number → stands_once number ts ≡ true → first ts 0 ≡ number → AllPassed (lines_before number ts) × (test_of ts number ≡ false)
unfolding pairwise
first_refused number [] l d h = absurd (omega arith)
first_refused number ((k, true) ∷ ts) l d h =
    let o = both (all (λ u. not (eqb k number && eqb u.0 number)) ts) (stands_once number ts) d in
    if (eqb k number)
    (λ b. absurd (none_refuses number ts l (ap (λ z. all (λ u. not (z && eqb u.0 number)) ts) (sym b) ∙ o.0) h))
    (λ b. let r = first_refused number ts l o.1 h in (λ n. rw b (if (eqb k n) (λ e. rw e refl) (λ e. rw e (r.0 n))), rw b r.1))
first_refused number ((k, false) ∷ ts) l d h = rw (eq-eqb k number h) (λ n. refl, refl)
