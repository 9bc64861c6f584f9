-- The columns of an argument fit: the argument is whole, each column is well formed, and no two names clash.
use Prim.Native.Nat.{ℕ, ◌*◌, ◌≤◌, ◌<◌}
use mathlib.Core.Path.{◌≡◌, refl, sym}
use mathlib.Core.Bool.{Bool, true, false, not, ◌&&◌, and-true, and-false}
use mathlib.Core.List.{List, map}
use native.Mathlib.Omega.{arith}
use lib.Dec.{leb, eqb}
use lib.ListN.{length}
use borrow.Author.Tests.{eqb-true, le-leb, lt-leb}
use Rattle.lists.specs.Lists.{range, all, pairwise}
use Rattle.lists.proofs.Tests.{both}
use Rattle.layout.specs.Catalog.{column_limit}
use Rattle.layout.specs.Names.{name_size}
use Rattle.ducklake.specs.Arguments.{clashes, column_argument_size, column_arguments, column_argument, new_columns, column_fits, columns_whole, columns_fit}
use Rattle.table_creation.specs.Columns.{ColumnsLent}

-- the tests of a whole argument but for the limit, where n is how many columns there are
abbrev evenly : List ℕ → List ℕ → ℕ → Bool
evenly words names n = eqb (length words) (column_argument_size * n) && eqb (length names) (name_size * n) && leb 1 n

module _ (words names : List ℕ) {n : ℕ} (e : n ≡ column_arguments words) where
  pub too_many : column_limit < n → false ≡ columns_whole words names
  unfolding columns_whole
  too_many h = rw (lt-leb (column_arguments words) column_limit (omega arith)) (sym (and-false (evenly words names (column_arguments words))))

  pub few_enough : n ≤ column_limit → evenly words names n ≡ columns_whole words names
  unfolding columns_whole
  few_enough h = rw (le-leb (column_arguments words) column_limit (omega arith), e) (sym (and-true (evenly words names (column_arguments words))))

-- a whole argument has a place for each name
module _ (words names : List ℕ) (h : columns_whole words names ≡ true) where
  pub names_whole : length names ≡ name_size * column_arguments words
  unfolding columns_whole
  names_whole =
      let t = both (evenly words names (column_arguments words)) (leb (column_arguments words) column_limit) h in
      eqb-true _ _ (both (eqb (length words) (column_argument_size * column_arguments words)) _ (both _ (leb 1 (column_arguments words)) t.0).0).1

  pub whole_lent : {n : ℕ} → n ≡ column_arguments words → ColumnsLent words names n
  whole_lent e = record { held = omega arith; named = omega (arith, names_whole) }

module _ (table : ℕ) (words names : List ℕ) where
  pub fit_whole : columns_fit table words names ≡ true → columns_whole words names ≡ true
  unfolding columns_fit
  fit_whole h = (both (columns_whole words names) _ (both (columns_whole words names && all column_fits (new_columns table words names)) _ h).0).0

  pub columns_ragged : columns_whole words names ≡ false → false ≡ columns_fit table words names
  unfolding columns_fit
  columns_ragged h = rw h refl

  pub columns_judged : {n : ℕ} {a b : Bool} → columns_whole words names ≡ true → n ≡ column_arguments words
      → a ≡ all column_fits (map (column_argument table words names) (range 0 n))
      → b ≡ pairwise (λ x y. not (clashes x.name y.name)) (map (column_argument table words names) (range 0 n)) → (a && b) ≡ columns_fit table words names
  unfolding columns_fit new_columns
  columns_judged h e p q = rw (h, p, q, e) refl
