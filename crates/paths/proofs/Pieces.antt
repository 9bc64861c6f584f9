-- Pieces of text that are written one after another are one piece: what is written over a run is written part by part (`overwrite_over`).
use Prim.Native.Nat.{ℕ, ◌+◌, ◌≤◌}
use mathlib.Core.Path.{◌≡◌, sym, ap, ◌∙◌}
use mathlib.Core.List.{List, [], ◌++◌}
use native.Mathlib.Omega.{arith}
use lib.ListN.{length, length-append}
use Rattle.lists.proofs.Runs.{overwrite_none, overwrite_length, overwrite_over}
use Rattle.paths.specs.Text.{Written}

-- a piece leaves the text as long as it was
pub written_length : {t t' x : List ℕ} {a b : ℕ} → Written t a x t' b → a + length x ≤ length t → length t' ≡ length t
written_length {t} {t'} {x} {a} p h = ap length p.bytes ∙ overwrite_length t a x h

-- two pieces, the second behind the first
pub written_then : {t t' t'' x y : List ℕ} {a b e : ℕ} → Written t a x t' b → Written t' b y t'' e → a ≤ length t → Written t a (x ++ y) t'' e
written_then {t} {t'} {t''} {x} {y} {a} p q h = record {
  bytes = q.bytes ∙ rw (p.bytes, p.end) (sym (overwrite_over t a x y h));
  end = q.end ∙ rw (p.end, length-append) (omega arith);
}

-- nothing more
pub written_none : (t : List ℕ) (a : ℕ) → Written t a [] t a
written_none t a = record { bytes = sym (overwrite_none t a); end = omega arith }
