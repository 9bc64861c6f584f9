-- Tests in code, each with what is told of it, as the tests of definitions, each with its number.
use Rattle.std.specs.Prelude.{ℕ, Bool, List, map, Result, Ok, Err}
use Rattle.layout.specs.declared.refusal.Refusal.{Refusal}
use Rattle.layout.specs.Refusals.{refusal_number}

-- with a number for each thing that is told
abbrev pub numbered_by : {R : Type 0} → (R → ℕ) → List (Bool × R) → List (ℕ × Bool)
numbered_by number tests = map (λ t. (number t.1, t.0)) tests

abbrev pub number_by : {A R : Type 0} → (R → ℕ) → Result A R → ℕ
number_by number (Ok a) = 0
number_by number (Err told) = number told

abbrev pub numbered : List (Bool × Refusal) → List (ℕ × Bool)
numbered tests = map (λ t. (refusal_number t.1, t.0)) tests
