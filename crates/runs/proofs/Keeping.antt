-- Rows of a run that are compacted in place: what holds at each turn, for places of any type.
use Rattle.std.proofs.Common.{◌≡◌, ℕ, ◌+◌, ◌-◌, ◌*◌, ◌<◌, ◌≤◌, true, false, List, length, take, drop, replicate, refl, sym, ap, ◌∙◌, mul-zero, mul-suc, mul-le-mul_left, add-one, arith}
use borrow.Rule.Slice.PartMut.{put_mid}
use Rattle.std.specs.List.{copy_within}
use Rattle.lists.specs.Pieces.{row_pieces, flagged, CompactedBy}
use Rattle.lists.proofs.Runs.{record_fits, overwrite_copied, overwrite_filled}
use Rattle.lists.proofs.Compaction.{compacted, compacted_pass, compacted_fail, compacted_done}

-- of the first i rows `kept` stay
pub record Keeping {A : Type 0} (zero : A) (size n : ℕ) (flags : List ℕ) (w₀ w : List A) (kept i : ℕ) : Type 0 where
  pub lent : size * n ≤ length w₀
  pub fewer : kept ≤ i
  pub long : length w ≡ length w₀
  pub comes : compacted zero (row_pieces size) (flagged flags) n w₀ 0 0 ≡ compacted zero (row_pieces size) (flagged flags) n w (size * kept) i

module _ {A : Type 0} {zero : A} {size n : ℕ} {flags : List ℕ} {w₀ : List A} where
  pub keeping_start : size * n ≤ length w₀ → Keeping zero size n flags w₀ w₀ 0 0
  keeping_start h = record { lent = h; fewer = omega arith; long = refl; comes = rw mul-zero refl }

  module _ {w : List A} {kept i : ℕ} (h : Keeping zero size n flags w₀ w kept i) where
    pub row_fits : i < n → size * i + size ≤ length w₀
    row_fits l = record_fits size l h.lent

    pub kept_before : size * kept ≤ size * i
    kept_before = mul-le-mul_left size h.fewer

    pub keeping_pass : {v : List A} → i < n → flagged flags i ≡ true → length v ≡ length w → v ≡ copy_within w (size * i) (size * i + size) (size * kept)
        → Keeping zero size n flags w₀ v (kept + 1) (i + 1)
    keeping_pass {v} l t s e =
        let next : size * kept + size ≡ size * (kept + 1) = rw (add-one, mul-suc) refl in
        record {
          lent = h.lent;
          fewer = omega (arith, h.fewer);
          long = s ∙ h.long;
          comes =
              h.comes
              ∙ compacted_pass zero (row_pieces size) _ _ w v _ _ refl refl kept_before l (omega (arith, h.lent, h.long)) t
              (overwrite_copied w (size * kept) (size * i) size (omega (arith, row_fits l, h.long)) e)
              ∙ rw next refl;
        }

    pub keeping_fail : i < n → flagged flags i ≡ false → Keeping zero size n flags w₀ w kept (i + 1)
    keeping_fail l t = record {
      lent = h.lent;
      fewer = omega (arith, h.fewer);
      long = h.long;
      comes = h.comes ∙ compacted_fail zero (row_pieces size) _ _ _ _ _ l t;
    }

    pub keeping_end : {u : List A} → n ≤ i → i ≤ n
        → u ≡ replicate (length (take (size * n - size * kept) (drop (size * kept) w))) zero
        → CompactedBy zero (row_pieces size) (flagged flags) n w₀ (size * kept) (put_mid (size * kept) (size * n - size * kept) w u)
    keeping_end {u} l g f =
        let same : i ≡ n = omega arith in
        let inside : size * n ≤ length w = omega (arith, h.lent, h.long) in
        let below : size * kept ≤ size * n = mul-le-mul_left size (omega (arith, h.fewer)) in
        compacted_done zero (row_pieces size) _ _ _ w _ _ _ _ l g (ap (λ (k : ℕ). size * k) (sym same)) below inside h.comes (overwrite_filled w _ _ zero below inside f)
