-- Refusals in a row: the number of code that returns at the first test that fails, and what an accepted call or reading passed.
use Prim.Native.Nat.{ℕ, zero, suc, ◌≤◌, ◌<◌}
use mathlib.Core.Path.{◌≡◌, refl, sym, ap, ◌∙◌}
use mathlib.Core.Bool.{Bool, true, false}
use mathlib.Core.List.{List, [], ◌∷◌}
use native.Mathlib.Omega.{arith}
use lib.Dec.{leb}
use lib.ListN.{length}
use borrow.Author.Tests.{le-leb, lt-leb, leb-true}
use Rattle.layout.specs.declared.outcome.Counts.{Counts}
use Rattle.layout.specs.Catalog.{Catalog}
use Rattle.layout.specs.Words.{Words, load, counts_of, fits}
use Rattle.layout.proofs.Room.{Held, held}
use Rattle.ducklake.specs.Soundness.{sound}
use Rattle.ducklake.specs.Refusals.{accepted, not_sound, no_room, short_answer_area, refuse_unless, first}
use Rattle.ducklake.specs.Calls.{Call, call_refusals, effect, answer, has_room, refusal, Reading, reading_refusals, reading_answer, reading_refusal}
use Rattle.ducklake.proofs.facts.Facts.{reflects_sound}
use Rattle.ducklake.proofs.facts.FirstRefusals.{NumberedFrom, unless_passed}
use Rattle.ducklake.proofs.readings.Answers.{numbered_reading, reading_parts}
use Rattle.ducklake.proofs.claim.Accepted.{numbered_call, refusal_parts}

-- One test

-- for code that returns at the first test that fails: `pass time_falls p (pass bad_name q (fail name_taken _ r))`
pub pass : {b : Bool} {x rest : ℕ} (number : ℕ) → b ≡ true → x ≡ rest → x ≡ refuse_unless number b rest
pass number e r = rw e r

pub fail : {b : Bool} (number rest : ℕ) → b ≡ false → number ≡ refuse_unless number b rest
fail number rest e = rw e refl

-- a test that is passed
pub unless_pass : {b : Bool} (number rest : ℕ) → b ≡ true → refuse_unless number b rest ≡ rest
unless_pass number rest e = rw e refl

-- a refusal, or what the rest comes to
pub or_else : ℕ → ℕ → ℕ
or_else zero rest = rest
or_else (suc number) rest = suc number

pub or_else_zero : {n : ℕ} (rest : ℕ) → n ≡ 0 → or_else n rest ≡ rest
unfolding or_else
or_else_zero rest e = rw e refl

pub or_else_some : (n rest : ℕ) → (n ≡ 0 → ⊥) → or_else n rest ≡ n
unfolding or_else
or_else_some zero rest h = absurd (h refl)
or_else_some (suc n) rest h = refl

pub or_else_both : (n rest : ℕ) → or_else n rest ≡ 0 → (n ≡ 0) × (rest ≡ 0)
unfolding or_else
or_else_both zero rest h = (refl, h)
or_else_both (suc n) rest h = absurd (omega arith)

unless_or_else : (number : ℕ) (b : Bool) (x rest : ℕ) → or_else (refuse_unless (suc number) b x) rest ≡ refuse_unless (suc number) b (or_else x rest)
unfolding or_else
unless_or_else number true x rest = refl
unless_or_else number false x rest = refl

some_or_else : (number : ℕ) (b : Bool) (x rest : ℕ) → 1 ≤ number → or_else (refuse_unless number b x) rest ≡ refuse_unless number b (or_else x rest)
some_or_else zero b x rest l = absurd (omega arith)
some_or_else (suc number) b x rest l = unless_or_else number b x rest

done : (rest : ℕ) → or_else 0 rest ≡ rest
unfolding or_else
done rest = refl

-- A call's own tests come to a refusal, or to the rest

pub first_or_else : (least : ℕ) (ts : List (ℕ × Bool)) (rest : ℕ) → 1 ≤ least → NumberedFrom least ts → first ts rest ≡ or_else (first ts 0) rest
first_or_else least [] rest l n = sym (done rest)
first_or_else least (t ∷ ts) rest l n =
    ap (refuse_unless t.0 t.1) (first_or_else least ts rest l n.1) ∙ sym (some_or_else t.0 t.1 (first ts 0) rest (omega (arith, n.0)))

pub judge_first : (C : Catalog) (k : Call) (rest : ℕ) → first (call_refusals C k) rest ≡ or_else (first (call_refusals C k) 0) rest
judge_first C k rest = first_or_else 1 (call_refusals C k) rest (omega arith) (numbered_call C k)

-- The number of a call on these tables, with an answer area of m words

pub sound_fits : (w : Words) (c : Counts) → sound w c ≡ true → fits w c ≡ true
sound_fits w c h = ((reflects_sound w c).to h).0

module _ (w : Words) (c : Counts) (m : ℕ) (k : Call) where
  -- 2 and 3, behind a call's own tests
  abbrev host : ℕ
  host = refuse_unless no_room (has_room w (effect (load w c) k)) (refuse_unless short_answer_area (leb (length (answer (load w c) k)) m) accepted)

  pub refusal_unsound : sound w c ≡ false → not_sound ≡ refusal w c m k
  unfolding refusal
  refusal_unsound h = fail not_sound _ h

  module _ (h : sound w c ≡ true) {n : ℕ} (e : n ≡ first (call_refusals (load w c) k) 0) where
    judged : refusal w c m k ≡ or_else n host
    judged = refusal_parts w c m k ∙ (unless_pass not_sound _ h ∙ (judge_first (load w c) k host ∙ ap (λ (j : ℕ). or_else j host) (sym e)))

    pub refusal_short : n ≡ 0 → has_room w (effect (load w c) k) ≡ true → m < length (answer (load w c) k) → short_answer_area ≡ refusal w c m k
    refusal_short z r l = sym (judged ∙ (or_else_zero host z ∙ (unless_pass no_room _ r ∙ sym (fail short_answer_area _ (lt-leb _ m l)))))

    pub refusal_none : n ≡ 0 → has_room w (effect (load w c) k) ≡ true → length (answer (load w c) k) ≤ m → accepted ≡ refusal w c m k
    refusal_none z r l = sym (judged ∙ (or_else_zero host z ∙ (unless_pass no_room _ r ∙ unless_pass short_answer_area accepted (le-leb _ m l))))

-- what an accepted call may rely on: sound tables that fit, its own tests, room for its effect and for its answer
pub record AcceptedCall (w : Words) (c : Counts) (m : ℕ) (k : Call) : Type 0 where
  pub sound : sound w c ≡ true
  pub fits : fits w c ≡ true
  pub judged : first (call_refusals (load w c) k) 0 ≡ 0
  pub room : has_room w (effect (load w c) k) ≡ true
  pub held : Held w (counts_of (effect (load w c) k))
  pub area : length (answer (load w c) k) ≤ m

pub accepted_call : (w : Words) (c : Counts) (m : ℕ) (k : Call) {n : ℕ} → n ≡ refusal w c m k → n ≡ 0 → AcceptedCall w c m k
unfolding has_room
accepted_call w c m k e z =
    let a = unless_passed not_sound (sound w c) _ (omega arith) (sym (refusal_parts w c m k) ∙ (sym e ∙ z)) in
    let b = or_else_both (first (call_refusals (load w c) k) 0) _ (sym (judge_first (load w c) k _) ∙ a.1) in
    let r = unless_passed no_room (has_room w (effect (load w c) k)) _ (omega arith) b.1 in
    record {
      sound = a.0;
      fits = sound_fits w c a.0;
      judged = b.0;
      room = r.0;
      held = held w (counts_of (effect (load w c) k)) r.0;
      area = leb-true _ _ (unless_passed short_answer_area (leb (length (answer (load w c) k)) m) accepted (omega arith) r.1).0;
    }

-- an accepted reading has room for its answer
pub reading_fits : (w : Words) (c : Counts) (m : ℕ) (r : Reading) → reading_refusal w c m r ≡ 0 → length (reading_answer (load w c) r) ≤ m
reading_fits w c m r z =
    let a = unless_passed not_sound (sound w c) _ (omega arith) (sym (reading_parts w c m r) ∙ z) in
    let b = or_else_both (first (reading_refusals (load w c) r) 0) _ (sym (first_or_else 4 (reading_refusals (load w c) r) _ (omega arith) (numbered_reading (load w c) r)) ∙ a.1) in
    leb-true _ _ (unless_passed short_answer_area (leb (length (reading_answer (load w c) r)) m) accepted (omega arith) b.1).0
