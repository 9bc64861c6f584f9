-- `each_column_fits` meets its contract: the loop goes on while the columns are well formed.
use Prim.Native.Nat.{ℕ}
use mathlib.Core.Path.{◌≡◌}
use mathlib.Core.List.{map}
use Rattle.lists.specs.Lists.{range, all}
use Rattle.lists.specs.Runs.{from}
use Rattle.ducklake.specs.Arguments.{column_argument, column_fits}
use Rattle.table_creation.proofs.columns.each_column_fits.Given as goal

abbrev pub invariant-loop-i : goal.invariant-loop-i
invariant-loop-i l =
    ((table : ℕ) → all column_fits (map (column_argument table l.columns l.names) (range 0 l.n)) ≡ all column_fits (from (column_argument table l.columns l.names) l.i l.n))
