-- The columns of a table stand together: one of that id that is live is among them or nowhere.
use Prim.Native.Nat.{ℕ}
use mathlib.Core.Path.{◌≡◌}
use mathlib.Core.List.{List}
use Rattle.lists.specs.Lists.{any}
use Rattle.lists.specs.Runs.{from}
use Rattle.layout.specs.Words.{column_at}
use Rattle.scans.proofs.Columns.{is_column}
use Rattle.scans.proofs.filtered.column_is_live.Given as goal

abbrev pub invariant-loop-i : goal.invariant-loop-i
invariant-loop-i l =
    (names : List ℕ) → any (is_column l.column l.s.0) (from (column_at l.columns names) l.initial.i l.i-end) ≡ any (is_column l.column l.s.0) (from (column_at l.columns names) l.i l.i-end)
