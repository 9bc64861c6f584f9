-- The lines of 'Sound tables' in their order: the first whose test fails is the answer.
use Prim.Native.Nat.{ℕ}
use mathlib.Core.Path.{◌≡◌, refl, sym, ap, ◌∙◌}
use mathlib.Core.Bool.{Bool, true, false, ◌&&◌}
use mathlib.Core.List.{List, [], ◌∷◌}
use lib.Dec.{eqb}
use Rattle.layout.specs.declared.outcome.Counts.{Counts}
use Rattle.layout.specs.Words.{Words}
use Rattle.ducklake.specs.Refusals.{first}
use Rattle.ducklake.specs.Soundness.{sound_lines, first_unsound, sound}
use Rattle.call_laws.proofs.Refusals.{unless_pass, fail}

-- lines that are left to test, among which the answer is found
pub record Left (answer : ℕ) : Type 0 where
  pub lines : List (ℕ × Bool)
  pub among : answer ≡ first lines 0

pub begins : (w : Words) (c : Counts) → first_unsound w c ≡ first (sound_lines w c) 0
unfolding first_unsound
begins w c = refl

-- before the first test, all of them
abbrev pub all_left : (w : Words) (c : Counts) → Left (first_unsound w c)
all_left w c = record { lines = sound_lines w c; among = begins w c }

-- the next line, its number and its test; and those behind it
abbrev pub number : List (ℕ × Bool) → ℕ
number [] = 0
number (t ∷ ts) = t.0

abbrev pub test : List (ℕ × Bool) → Bool
test [] = true
test (t ∷ ts) = t.1

abbrev pub behind : List (ℕ × Bool) → List (ℕ × Bool)
behind [] = []
behind (t ∷ ts) = ts

first_fails : (ts : List (ℕ × Bool)) → test ts ≡ false → number ts ≡ first ts 0
first_fails [] h = refl
first_fails (t ∷ ts) h = fail t.0 _ h

pub first_holds : (ts : List (ℕ × Bool)) → test ts ≡ true → first ts 0 ≡ first (behind ts) 0
first_holds [] h = refl
first_holds (t ∷ ts) h = unless_pass t.0 _ h

module _ {answer : ℕ} (l : Left answer) where
  -- a line that fails is the answer
  pub stops : test l.lines ≡ false → number l.lines ≡ answer
  stops h = first_fails l.lines h ∙ sym l.among

  -- a line that holds leaves those behind it
  abbrev pub goes_on : test l.lines ≡ true → Left answer
  goes_on h = record { lines = behind l.lines; among = l.among ∙ first_holds l.lines h }

  -- where none is left, every line holds
  pub ends : l.lines ≡ [] → 0 ≡ answer
  ends e = sym (l.among ∙ ap (λ (ts : List (ℕ × Bool)). first ts 0) e)

-- a line of two tests fails by the first, or past it by the second
pub by_first : {a : Bool} (b : Bool) → a ≡ false → (a && b) ≡ false
by_first b e = rw e refl

pub by_second : {a b : Bool} → a ≡ true → b ≡ false → (a && b) ≡ false
by_second e f = rw (e, f) refl

-- and past the first it is the second
pub after_first : {a : Bool} (b : Bool) → a ≡ true → (a && b) ≡ b
after_first b e = rw e refl

-- sound is that no line fails
pub sound_is : (w : Words) (c : Counts) {r : ℕ} → r ≡ first_unsound w c → eqb r 0 ≡ sound w c
unfolding sound
sound_is w c e = ap (λ (x : ℕ). eqb x 0) e
