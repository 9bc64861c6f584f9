-- Names in their places: what is left of a place, or of a padded name, from its byte k on.
use Prim.Native.Nat.{ℕ, ◌+◌, ◌*◌, ◌≤◌, ◌<◌}
use mathlib.Core.Path.{◌≡◌, refl, ◌∙◌}
use mathlib.Core.Bool.{false, and-false}
use mathlib.Core.List.{List, [], ◌∷◌}
use native.Mathlib.Nat.{add-zero}
use native.Mathlib.Omega.{arith}
use borrow.Author.Tests.{ne_eqb}
use lib.Dec.{eqb}
use lib.Seq.{get_or-take, get_or-drop}
use lib.ListN.{length, get_or, drop, length-append, length-replicate, length-take, length-drop, drop_of_length-le}
use Rattle.lists.proofs.Windows.{rest_step, part_step, part_end, agree_shorter, get_d_padded}
use Rattle.layout.specs.Names.{name_size, name_at, named_then_zero, is_name, padded, same_name}

module _ (run : List ℕ) (i : ℕ) (fits : name_size * i + name_size ≤ length run) where
  first : get_or (name_at run i) 0 0 ≡ get_or run (name_size * i) 0
  first = rw (get_or-take name_size (drop (name_size * i) run) 0 0 (omega arith), get_or-drop, add-zero) refl

  whole : length (name_at run i) ≡ name_size
  whole = simp (length-take, length-drop) (omega arith)

  pub place_step : (k : ℕ) → k < name_size → drop k (name_at run i) ≡ get_or run (name_size * i + k) 0 ∷ drop (k + 1) (name_at run i)
  place_step k h = part_step 0 run (name_size * i) name_size k fits h

  -- a name has a first byte, and then the other test decides
  pub name_zero : get_or run (name_size * i) 0 ≡ 0 → is_name (name_at run i) ≡ false
  unfolding is_name
  name_zero e = rw (first, e, and-false) refl

  pub name_more : (get_or run (name_size * i) 0 ≡ 0 → ⊥) → is_name (name_at run i) ≡ named_then_zero (name_at run i)
  unfolding is_name
  name_more n = rw (first, ne_eqb _ _ n, whole) refl

-- a name that is longer than its place is the name of none
pub too_long : (run : List ℕ) (i : ℕ) (name : List ℕ) → name_size < length name → same_name (name_at run i) (padded name) ≡ false
unfolding same_name padded
too_long run i name h = agree_shorter eqb (name_at run i) _ (simp (length-take, length-append) (omega arith))

pub place_end : (run : List ℕ) (i k : ℕ) → name_size ≤ k → drop k (name_at run i) ≡ []
place_end run i k h = part_end run (name_size * i) name_size k h

module _ (name : List ℕ) (fits : length name ≤ name_size) where
  pub padded_length : length (padded name) ≡ name_size
  unfolding padded
  padded_length = simp (length-append, length-replicate) (omega arith)

  pub padded_step : (k : ℕ) {b : ℕ} → k < name_size → b ≡ get_or name k 0 → drop k (padded name) ≡ b ∷ drop (k + 1) (padded name)
  unfolding padded
  padded_step k h e = rest_step 0 (padded name) k (omega (arith, padded_length)) ∙ rw (get_d_padded, e) refl

  pub padded_end : (k : ℕ) → name_size ≤ k → drop k (padded name) ≡ []
  padded_end k h = drop_of_length-le (padded name) {i = k} (omega (arith, padded_length))
