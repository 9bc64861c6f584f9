-- The tests of a call against those that the definition names.
use Prim.Native.Nat.{ℕ}
use mathlib.Core.Path.{◌≡◌, refl, ap, ◌∙◌}
use mathlib.Core.Bool.{Bool, true}
use mathlib.Core.List.{List, [], ◌∷◌, ◌++◌}
use Rattle.layout.specs.declared.outcome.Counts.{Counts}
use Rattle.layout.specs.declared.outcome.Terms.{Terms}
use Rattle.layout.specs.declared.refusal.Refusal.{Refusal}
use Rattle.layout.specs.Refusals.{refusal_number, number_of}
use Rattle.std.specs.Prelude.{Result, Ok, Err}
use Rattle.layout.specs.Catalog.{Catalog}
use Rattle.layout.specs.Words.{Words, load, counts_of, within}
use Rattle.ducklake.specs.Soundness.{sound}
use Rattle.ducklake.specs.Refusals.{accepted, not_sound, no_room, refuse_unless, first}
use Rattle.ducklake.specs.Commits.{Commit, change_of, additions}
use Rattle.ducklake.proofs.facts.FirstRefusals.{first_append}
use Rattle.ducklake.specs.Calls.{Call, commit_at, call_refusals, effect, answer, has_room, refusal, Reading, reading_refusals}
use Rattle.call_laws.specs.Writes.{add_counts}
use Rattle.call_laws.proofs.Refusals.{sound_fits, pass}
use Rattle.refusals.specs.declared.checked.Checked.{Checked}
use Rattle.refusals.specs.Checked.{checked_of, unanswered}
use Rattle.refusals.specs.Numbered.{number_by}
use Rattle.refusals.proofs.Laws.{unless_same, call_refusal, commit_room}

-- a refusal's number is that of the definitions
pub number_by_refusal : {A : Type 0} (r : Result A Refusal) → number_of r ≡ number_by refusal_number r
number_by_refusal (Ok a) = refl
number_by_refusal (Err refusal) = refl

-- what a call computed is what must hold, test by test, each where those before it are passed
infixr 30 ◌then◌
pub data Agree : List (ℕ × Bool) → List (ℕ × Bool) → Type 0 where
  done : Agree [] []
  ◌then◌ : {a b : Bool} {ps ts : List (ℕ × Bool)} {number : ℕ} → a ≡ b → (b ≡ true → Agree ps ts) → Agree ((number, a) ∷ ps) ((number, b) ∷ ts)

agree_first : {ps ts : List (ℕ × Bool)} → Agree ps ts → first ps accepted ≡ first ts accepted
agree_first done = refl
agree_first (◌then◌ {a} {b} {ps} {ts} {number} e f) = ap (λ c. refuse_unless number c (first ps accepted)) e ∙ unless_same number b (λ h. agree_first (f h))

-- the refusals of a call behind 1: 5 to 19, then 4, and 2 by a test of room
abbrev pub room_refusals : Catalog → Call → Bool → List (ℕ × Bool)
room_refusals C k room = call_refusals C k ++ ((no_room, room) ∷ [])

-- the number of a call without an answer whose tests agree
pub call_judged : (w : Words) (c : Counts) → sound w c ≡ true → (m : ℕ) (k : Call) → answer (load w c) k ≡ [] → {room : Bool} → room ≡ has_room w (effect (load w c) k) → {x : ℕ} {ps : List (ℕ × Bool)}
    → x ≡ first ps accepted → Agree ps (room_refusals (load w c) k room) → x ≡ refusal w c m k
call_judged w c h m k a r j f = call_refusal w c m k h a r (j ∙ (agree_first f ∙ first_append (call_refusals (load w c) k) _ accepted))

-- of a commit: 2 by what it adds
abbrev pub commit_refusals : Catalog → Terms → Commit → Counts → Counts → Counts → List (ℕ × Bool)
commit_refusals C terms k c added room = room_refusals C (commit_at terms k) (within (add_counts c added) room)

pub commit_judged : (w : Words) (c : Counts) {checked : Checked} → checked ≡ checked_of w c → sound w c ≡ true → (m : ℕ) (terms : Terms) (k : Commit) {added : Counts}
    → counts_of (additions (load w c) (change_of (load w c) terms.time k)) ≡ added → {x : ℕ} {ps : List (ℕ × Bool)}
    → x ≡ first ps accepted
    → Agree ps (commit_refusals (load w c) terms k c added checked.room) → x ≡ refusal w c m (commit_at terms k)
unfolding answer
commit_judged w c e h m terms k a j f = call_judged w c h m (commit_at terms k) refl (commit_room w c e terms k (sound_fits w c h) a) j f

-- the number of a reading whose tests agree, before its answer's length is known
pub reading_judged : (w : Words) (c : Counts) → sound w c ≡ true → (r : Reading) {x : ℕ} {ps : List (ℕ × Bool)}
    → x ≡ first ps accepted → Agree ps (reading_refusals (load w c) r)
    → x ≡ unanswered w c r
unfolding unanswered
reading_judged w c h r j f = pass not_sound h (j ∙ agree_first f)
