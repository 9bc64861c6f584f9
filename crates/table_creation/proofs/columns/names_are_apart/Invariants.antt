-- `names_are_apart` meets its contract: the loop compares each name with the later ones.
use Prim.Native.Nat.{ℕ}
use mathlib.Core.Path.{◌≡◌}
use mathlib.Core.Bool.{Bool, not}
use mathlib.Core.List.{List, map}
use Rattle.lists.specs.Lists.{range, pairwise}
use Rattle.lists.specs.Runs.{from}
use Rattle.layout.specs.Catalog.{Column}
use Rattle.ducklake.specs.Arguments.{clashes, column_argument}
use Rattle.table_creation.proofs.columns.names_are_apart.Given as goal

abbrev pub apart : Column → Column → Bool
apart a b = not (clashes a.name b.name)

abbrev pub invariant-loop-i : goal.invariant-loop-i
invariant-loop-i l =
    ((table : ℕ) (words : List ℕ) → pairwise apart (map (column_argument table words l.names) (range 0 l.n)) ≡ pairwise apart (from (column_argument table words l.names) l.i l.n))
