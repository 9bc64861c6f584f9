-- Flags of places: a loop sets them one after another, and a compaction by flags is one by what they stand for.
use Prim.Native.Nat.{ℕ, ◌+◌, ◌*◌, ◌<◌}
use mathlib.Core.Path.{◌≡◌, refl, sym, ap, ◌∙◌}
use mathlib.Core.Bool.{Bool, true, false}
use mathlib.Core.List.{List, map, flat_map}
use native.Mathlib.Omega.{arith}
use lib.ListN.{length, set}
use lib.Dec.{ltb, eqb}
use lib.Seq.{get_or-set_same, get_or-set_other}
use borrow.Author.Tests.{ltb-true, ltb-false}
use Rattle.lists.specs.Lists.{range, filter, sum, bit}
use Rattle.lists.specs.Runs.{replace}
use Rattle.lists.specs.Pieces.{Pieces, piece, row_pieces, Compacted, flagged, Flags}
use Rattle.lists.proofs.Tests.{if}
use Rattle.lists.proofs.Members.{in_range_lem}
use Rattle.lists.proofs.Selections.{filter_ext}
use Rattle.lists.proofs.Compaction.{rows_count}

pub flags_start : (q : ℕ → Bool) (flags : List ℕ) → Flags q 0 flags
flags_start q flags = record { set = λ j h. absurd (omega (arith, h)) }

flag_is : (b : Bool) → eqb (bit b) 1 ≡ b
flag_is true = refl
flag_is false = refl

flag_here : (flags : List ℕ) (i : ℕ) (b : Bool) → i < length flags → flagged (set flags i (bit b)) i ≡ b
unfolding flagged
flag_here flags i b h = rw (get_or-set_same flags i (bit b) 0 h) (flag_is b)

flag_other : (flags : List ℕ) (i j : ℕ) (b : Bool) → j < i → flagged (set flags i (bit b)) j ≡ flagged flags j
unfolding flagged
flag_other flags i j b h = rw (get_or-set_other flags i j (bit b) 0 (λ t. omega (arith, t))) refl

pub flags_next : (q : ℕ → Bool) (flags v : List ℕ) (i : ℕ) {b : Bool} → Flags q i flags → i < length flags → b ≡ q i → v ≡ set flags i (bit b) → Flags q (i + 1) v
flags_next q flags v i {b} f l e s = record { set = next }
  where
    next : (j : ℕ) → j < i + 1 → flagged v j ≡ q j
    next j h =
        ap (λ t. flagged t j) s
        ∙ if (ltb j i) (λ t. flag_other flags i j b (ltb-true j i t) ∙ f.set j (ltb-true j i t))
        (λ t. let k : j ≡ i = omega (arith, ltb-false j i t) in ap (flagged (set flags i (bit b))) k ∙ (flag_here flags i b l ∙ (e ∙ ap q (sym k))))

-- a compaction by places that pass, for another test of these places
pub compacted_as : {P : Pieces} {p q : ℕ → Bool} (n : ℕ) {w v : List ℕ} {r : ℕ} → ((j : ℕ) → j < n → p j ≡ q j) → Compacted P p n w r v → Compacted P q n w r v
compacted_as {P} {p} {q} n {w} e s = record {
  count = s.count ∙ ap (λ js. sum (map P.size js)) same;
  words = s.words ∙ ap (λ js. replace w (P.start n) (flat_map (piece P w) js)) same;
}
  where
    same : filter p (range 0 n) ≡ filter q (range 0 n)
    same = filter_ext p q (range 0 n) (λ j m. e j (omega (arith, in_range_lem 0 n m)))

-- as many records stay of one run as of another beside it
pub compacted_beside : (a b : ℕ) (q : ℕ → Bool) (n k l : ℕ) {w v u t : List ℕ} → 0 < a → 0 < b
    → Compacted (row_pieces a) q n w (a * k) v → Compacted (row_pieces b) q n u (b * l) t → Compacted (row_pieces b) q n u (b * k) t
compacted_beside a b q n k l g h s d = record { count = ap (λ m. b * m) same ∙ d.count; words = d.words }
  where
    same : k ≡ l
    same = rows_count a k q q (λ j. j) n g (λ j m. refl) s ∙ sym (rows_count b l q q (λ j. j) n h (λ j m. refl) d)
