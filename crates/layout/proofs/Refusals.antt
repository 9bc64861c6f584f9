-- No refusal has the number of an accepted call, and one alone the number 17.
use mathlib.Core.Path.{◌≡◌, refl}
use native.Mathlib.Omega.{arith}
use Rattle.layout.specs.declared.refusal.Refusal.{Refusal}
use Rattle.layout.specs.declared.refusal.Refusal.TheVariants.{NotSound, AlreadyDeleted}
use Rattle.layout.specs.Refusals.{refusal_number}

pub not_accepted : (refusal : Refusal) → refusal_number refusal ≡ 0 → ⊥
not_accepted NotSound h = omega arith
not_accepted _ h = omega arith

pub is_already_deleted : (refusal : Refusal) → refusal_number refusal ≡ 17 → refusal ≡ AlreadyDeleted
is_already_deleted AlreadyDeleted h = refl
is_already_deleted _ h = absurd (omega arith)
