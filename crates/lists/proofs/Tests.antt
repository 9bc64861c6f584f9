-- Tests and what they tell.
use Prim.Native.Nat.{ℕ, ◌+◌, ◌≤◌, ◌<◌}
use native.Mathlib.Omega.{arith}
use mathlib.Core.Path.{◌≡◌, refl, sym, ◌∙◌}
use mathlib.Core.Logic.{◌⊎◌, inl, inr}
use mathlib.Core.Bool.{Bool, true, false, not, ◌&&◌, ◌||◌, or_assoc, true≢false, false≢true}
use lib.Dec.{leb, ltb, eqb}
use borrow.Author.Tests.{leb-true, ltb-true, eqb-true, le-leb, lt-ltb, eq-eqb, ltb-false, lt-leb, not-true, not-false}

-- a test that is passed just where a fact holds
pub record Reflects (b : Bool) (P : Type 0) : Type 0 where
  pub to : b ≡ true → P
  pub from : P → b ≡ true

pub if : {C : Type 0} (b : Bool) → (b ≡ true → C) → (b ≡ false → C) → C
if true f g = f refl
if false f g = g refl

pub either : {A B C : Type 0} → A ⊎ B → (A → C) → (B → C) → C
either (inl a) f g = f a
either (inr b) f g = g b

pub clash : {C : Type 0} {b : Bool} → b ≡ true → b ≡ false → C
clash p q = absurd (true≢false (sym p ∙ q))

pub both : (a b : Bool) → (a && b) ≡ true → (a ≡ true) × (b ≡ true)
both true b h = (refl, h)
both false b h = absurd (false≢true h)

pub and : {a b : Bool} → a ≡ true → b ≡ true → (a && b) ≡ true
and {a} {b} p q = rw (p, q)

pub or_cases : (a b : Bool) → (a || b) ≡ true → (a ≡ true) ⊎ (b ≡ true)
or_cases true b h = inl refl
or_cases false b h = inr h

pub or_left : (a b : Bool) → a ≡ true → (a || b) ≡ true
or_left a b p = rw p

pub or_right : (a b : Bool) → b ≡ true → (a || b) ≡ true
or_right true b p = refl
or_right false b p = p

-- two tests that pass together are one
pub same_test : (a b : Bool) → (a ≡ true → b ≡ true) → (b ≡ true → a ≡ true) → a ≡ b
same_test true b f g = sym (f refl)
same_test false true f g = g refl
same_test false false f g = refl

-- a second test that matters only where the first passes
pub and_same : (a : Bool) {b c : Bool} → (a ≡ true → b ≡ c) → (a && b) ≡ (a && c)
and_same true h = h refl
and_same false h = refl

pub not-or : (a b : Bool) → (not a && not b) ≡ not (a || b)
not-or true b = refl
not-or false b = refl

-- a test that stays as it is
pub reflects_it : (b : Bool) → Reflects b (b ≡ true)
reflects_it b = record { to = λ h. h; from = λ h. h }

pub reflects_as : {b : Bool} {P Q : Type 0} → Reflects b P → (P → Q) → (Q → P) → Reflects b Q
reflects_as t f g = record { to = λ h. f (t.to h); from = λ q. t.from (g q) }

pub reflects_and : {a b : Bool} {P Q : Type 0} → Reflects a P → Reflects b Q → Reflects (a && b) (P × Q)
reflects_and {a} {b} s t = record {
  to = λ h. (s.to (both a b h).0, t.to (both a b h).1);
  from = λ h. and (s.from h.0) (t.from h.1);
}

pub reflects_or : {a b : Bool} {P Q : Type 0} → Reflects a P → Reflects b Q → Reflects (a || b) (P ⊎ Q)
reflects_or {a} {b} {P} {Q} s t = record {
  to = λ h. either (or_cases a b h) (λ x. inl (s.to x)) (λ y. inr (t.to y));
  from = λ h. either h (λ x. or_left a b (s.from x)) (λ y. or_right a b (t.from y));
}

pub reflects_not : {b : Bool} {P : Type 0} → Reflects b P → Reflects (not b) (P → ⊥)
reflects_not {b} {P} t = record { to = to' b t.from; from = from' b t.to }
  where
    to' : (b : Bool) → (P → b ≡ true) → not b ≡ true → P → ⊥
    to' true f h p = false≢true h
    to' false f h p = false≢true (f p)

    from' : (b : Bool) → (b ≡ true → P) → (P → ⊥) → not b ≡ true
    from' true f h = absurd (h (f refl))
    from' false f h = refl

pub reflects_implies : {a b : Bool} {P Q : Type 0} → Reflects a P → Reflects b Q → Reflects (not a || b) (P → Q)
reflects_implies {a} {b} {P} {Q} s t = record { to = to' a b s.from t.to; from = from' a b s.to t.from }
  where
    to' : (a b : Bool) → (P → a ≡ true) → (b ≡ true → Q) → (not a || b) ≡ true → P → Q
    to' true b f g h p = g h
    to' false b f g h p = absurd (false≢true (f p))

    from' : (a b : Bool) → (a ≡ true → P) → (Q → b ≡ true) → (P → Q) → (not a || b) ≡ true
    from' true b f g h = g (h (f refl))
    from' false b f g h = refl

pub reflects_leb : (a b : ℕ) → Reflects (leb a b) (a ≤ b)
reflects_leb a b = record { to = leb-true a b; from = le-leb a b }

pub reflects_ltb : (a b : ℕ) → Reflects (ltb a b) (a < b)
reflects_ltb a b = record { to = ltb-true a b; from = lt-ltb a b }

pub reflects_eqb : (a b : ℕ) → Reflects (eqb a b) (a ≡ b)
reflects_eqb a b = record { to = eqb-true a b; from = eq-eqb a b }

pub ltb_suc : (a b : ℕ) → ltb a (b + 1) ≡ leb a b
ltb_suc a b = same_test _ _ (λ h. le-leb a b (omega (arith, ltb-true a (b + 1) h))) (λ h. lt-ltb a (b + 1) (omega (arith, leb-true a b h)))

pub eqb_swap : (a b : ℕ) → eqb a b ≡ eqb b a
eqb_swap a b = same_test _ _ (λ h. eq-eqb b a (sym (eqb-true a b h))) (λ h. eq-eqb a b (sym (eqb-true b a h)))

pub leb_not_ltb : (a b : ℕ) → leb a b ≡ not (ltb b a)
leb_not_ltb a b = if (ltb b a) (λ e. rw (e, lt-leb a b (ltb-true b a e))) (λ e. rw (e, le-leb a b (ltb-false b a e)))

-- a test behind two conditions, one condition before two tests
pub reflects_implies_both : {a b c : Bool} {P Q R : Type 0} → Reflects a P → Reflects b Q → Reflects c R → Reflects (not a || not b || c) (P → Q → R)
reflects_implies_both {a} {b} {c} s t u = rw or_assoc (reflects_implies s (reflects_implies t u))

pub reflects_implies_either : {a b c : Bool} {P Q R : Type 0} → Reflects a P → Reflects b Q → Reflects c R → Reflects (not a || b || c) (P → Q ⊎ R)
reflects_implies_either {a} {b} {c} s t u = rw or_assoc (reflects_implies s (reflects_or t u))

-- a test by its answer: `if !r`
pub passed : {r b : Bool} → r ≡ b → not r ≡ false → b ≡ true
passed {r} e h = sym e ∙ not-false r h

pub failed : {r b : Bool} → r ≡ b → not r ≡ true → b ≡ false
failed {r} e h = sym e ∙ not-true r h
