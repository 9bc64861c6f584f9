-- Runs cut into consecutive pieces, and what compaction leaves of them.
use Rattle.std.specs.Prelude.{ℕ, suc, ◌+◌, ◌*◌, ◌<◌, ◌≡◌, Bool, eqb, get_or, take, drop}
use mathlib.Core.List.{List, map, flat_map}
use Rattle.std.proofs.Common.{mul-zero, mul-suc}
use Rattle.lists.specs.Lists.{range, filter, sum}
use Rattle.lists.specs.Runs.{replace_by}

-- pieces that follow each other from 0 on
pub record Pieces : Type 0 where
  pub size : ℕ → ℕ
  pub start : ℕ → ℕ
  pub first : start 0 ≡ 0
  pub then : (j : ℕ) → start (suc j) ≡ start j + size j

abbrev pub piece : {A : Type 0} → Pieces → List A → ℕ → List A
piece P w j = take (P.size j) (drop (P.start j) w)

-- records of one size
abbrev pub row_pieces : ℕ → Pieces
row_pieces size = record { size = λ _. size; start = λ i. size * i; first = mul-zero size; then = mul-suc size }

-- of n pieces those whose places pass q: how many words they are, and the run, in which gaps are closed and freed places `zero`
pub record CompactedBy {A : Type 0} (zero : A) (P : Pieces) (q : ℕ → Bool) (n : ℕ) (w : List A) (r : ℕ) (w' : List A) : Type 0 where
  pub count : r ≡ sum (map P.size (filter q (range 0 n)))
  pub words : w' ≡ replace_by zero w (P.start n) (flat_map (piece P w) (filter q (range 0 n)))

-- of words and bytes
abbrev pub Compacted : Pieces → (ℕ → Bool) → ℕ → List ℕ → ℕ → List ℕ → Type 0
Compacted P q n w r w' = CompactedBy 0 P q n w r w'

-- flags, one for each place: whether the place j has its flag set
unfoldable pub flagged : List ℕ → ℕ → Bool
flagged flags j = eqb (get_or flags j 0) 1

-- the flags of the first n places are those of the places that pass q
pub record Flags (q : ℕ → Bool) (n : ℕ) (flags : List ℕ) : Type 0 where
  pub set : (j : ℕ) → j < n → flagged flags j ≡ q j
