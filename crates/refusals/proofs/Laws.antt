-- Refusals by an expression: tests folded in the definition's order; the number of a call without an answer, and of a commit, on checked tables.
use Prim.Native.Nat.{ℕ, ◌+◌, ◌-◌, ◌≤◌, ◌<◌}
use mathlib.Core.Path.{◌≡◌, refl, sym, ap, ap₂, ◌∙◌}
use mathlib.Core.Bool.{Bool, true, false, not}
use mathlib.Core.List.{[]}
use native.Mathlib.Omega.{arith}
use lib.Dec.{leb}
use lib.ListN.{length}
use borrow.Author.Tests.{leb-true, le-leb, lt-leb, not-true, not-false}
use Rattle.lists.proofs.Tests.{same_test}
use Rattle.layout.specs.declared.outcome.Counts.{Counts}
use Rattle.layout.specs.declared.outcome.Terms.{Terms}
use Rattle.layout.specs.Words.{Words, load, counts_of, capacity, within, fits}
use Rattle.layout.proofs.Room.{reflects_within}
use Rattle.ducklake.specs.Soundness.{sound}
use Rattle.ducklake.specs.Refusals.{accepted, not_sound, no_room, short_answer_area, refuse_unless, first}
use Rattle.ducklake.specs.Commits.{Commit, change_of, additions}
use Rattle.ducklake.specs.Calls.{Call, commit_at, call_refusals, effect, answer, has_room, refusal, Reading}
use Rattle.ducklake.proofs.claim.Accepted.{refusal_parts}
use Rattle.call_laws.specs.Writes.{add_counts}
use Rattle.call_laws.proofs.Commits.{counts_after}
use Rattle.call_laws.proofs.Ready.{Ready, ready}
use Rattle.call_laws.proofs.Refusals.{AcceptedCall, refusal_unsound, unless_pass, fail}
use Rattle.refusals.specs.Few.{Few}
use Rattle.refusals.specs.declared.checked.Checked.{Checked}
use Rattle.refusals.specs.Checked.{checked_of, unanswered}

-- a sum against its limit, by a difference: of a part that is past it, and of one that isn't
pub sum_past : (a b n : ℕ) → n < b → false ≡ leb (a + b) n
sum_past a b n h = sym (lt-leb (a + b) n (omega arith))

pub sum_within : (a b n : ℕ) → b ≤ n → leb a (n - b) ≡ leb (a + b) n
sum_within a b n l = same_test _ _ (λ h. le-leb (a + b) n (omega (arith, leb-true a (n - b) h))) (λ h. le-leb a (n - b) (omega (arith, leb-true (a + b) n h)))

-- the test of room, by what is added
pub room_as : (c r : Counts) {a added : Counts} {b : Bool} → b ≡ within (add_counts c a) r → a ≡ added → b ≡ within (add_counts c added) r
room_as c r p q = rw q at p

-- what comes after a test matters only where the test is passed
pub unless_same : (number : ℕ) (b : Bool) {x y : ℕ} → (b ≡ true → x ≡ y) → refuse_unless number b x ≡ refuse_unless number b y
unless_same number true e = e refl
unless_same number false e = refl

-- the number of a call without an answer on sound tables: its own tests, and room for its effect
pub call_refusal : (w : Words) (c : Counts) (m : ℕ) (k : Call) {room : Bool} {n : ℕ} → sound w c ≡ true → answer (load w c) k ≡ [] → room ≡ has_room w (effect (load w c) k)
    → n ≡ first (call_refusals (load w c) k) (refuse_unless no_room room accepted) → n ≡ refusal w c m k
call_refusal w c m k h a r j =
    j ∙ (ap₂ (λ b x. first (call_refusals (load w c) k) (refuse_unless no_room b x)) r (sym (unless_pass {b = leb (length (answer (load w c) k)) m} short_answer_area accepted (rw a (le-leb 0 m (omega arith)))))
    ∙ (sym (unless_pass not_sound _ h) ∙ sym (refusal_parts w c m k)))

module _ (w : Words) (c : Counts) {checked : Checked} (e : checked ≡ checked_of w c) where
  pub is_sound_lem : not checked.sound ≡ false → sound w c ≡ true
  is_sound_lem h = sym (ap (λ k. k.sound) e) ∙ not-false checked.sound h

  -- tables that have passed are ready
  pub checked_ready : checked.sound ≡ true → Ready w c
  checked_ready h = ready w c (sym (ap (λ k. k.sound) e) ∙ h)

  pub unsound : (m : ℕ) (k : Call) → not checked.sound ≡ true → not_sound ≡ refusal w c m k
  unsound m k h = refusal_unsound w c m k (sym (ap (λ k. k.sound) e) ∙ not-true checked.sound h)

  pub reading_unsound : (r : Reading) → not checked.sound ≡ true → not_sound ≡ unanswered w c r
  unfolding unanswered
  reading_unsound r h = fail not_sound _ (sym (ap (λ k. k.sound) e) ∙ not-true checked.sound h)

  -- a commit has room where there is room for what it adds
  pub commit_room : (terms : Terms) (k : Commit) {added : Counts} → fits w c ≡ true → counts_of (additions (load w c) (change_of (load w c) terms.time k)) ≡ added
      → within (add_counts c added) checked.room ≡ has_room w (effect (load w c) (commit_at terms k))
  unfolding has_room
  commit_room terms k f a = ap₂ within (counts_after w c f terms k a) (ap (λ k. k.room) e)

-- the counts after an accepted commit are few
pub few_after : (w : Words) (c : Counts) (m : ℕ) (terms : Terms) (k : Commit) {added : Counts} → counts_of (additions (load w c) (change_of (load w c) terms.time k)) ≡ added
    → AcceptedCall w c m (commit_at terms k) → Few (add_counts c added)
unfolding has_room capacity
few_after w c m terms k {added} a A =
    let h = (reflects_within (add_counts c added) (capacity w)).to (ap (λ x. within x (capacity w)) (counts_after w c A.fits terms k a) ∙ A.room) in
    record {
      snapshots = omega (arith, h.snapshots);
      schemas = omega (arith, h.schemas);
      tables = omega (arith, h.tables);
      columns = omega (arith, h.columns);
      data_files = omega (arith, h.data_files);
      delete_files = omega (arith, h.delete_files);
      positions = omega (arith, h.positions);
      statistics = omega (arith, h.statistics);
      scheduled = omega (arith, h.scheduled);
    }

-- what was checked, part by part
pub checked_as : (w : Words) (c : Counts) {s : Bool} {r : Counts} → s ≡ sound w c → r ≡ capacity w → record { sound = s; room = r } ≡ checked_of w c
checked_as w c p q = rw (p, q) refl

pub few_as : (c : Counts) {a added : Counts} → a ≡ added → Few (add_counts c added) → Few (add_counts c a)
few_as c e f = rw e f
