-- `statistics_argument_fits` meets its contract: each turn passes the next column, and with it, where it is live, the next statistics given.
use Prim.Native.Nat.{ℕ, ◌≤◌}
use mathlib.Core.Path.{◌≡◌}
use mathlib.Core.List.{List}
use Rattle.ducklake.specs.Arguments.{statistics_argument}
use Rattle.soundness_statistics.proofs.FileStatistics.{judged}
use Rattle.row_insertion.proofs.statistics.statistics_argument_fits.Given as goal

abbrev pub invariant-loop-c : goal.invariant-loop-c
invariant-loop-c l =
    (l.x ≤ l.given)
    × ((names : List ℕ) → judged l.columns names (statistics_argument l.data_file.0 l.words) l.rows l.s.0 l.c-end l.given l.initial.c 0
    ≡ judged l.columns names (statistics_argument l.data_file.0 l.words) l.rows l.s.0 l.c-end l.given l.c l.x)
