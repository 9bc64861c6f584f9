-- `mark_data_files` meets its contract: each turn sets the flag of its delete file's data file, if the delete file is open.
use Prim.Native.Nat.{ℕ, ◌<◌}
use mathlib.Core.Path.{◌≡◌}
use mathlib.Core.Bool.{◌||◌}
use mathlib.Core.List.{List}
use Rattle.lists.specs.Runs.{from}
use Rattle.lists.specs.Pieces.{flagged}
use Rattle.layout.specs.Words.{data_file_at, delete_file_at, delete_files_in}
use Rattle.chaining.specs.Chained.{has_open_deletes}
use Rattle.chaining.proofs.chained.mark_data_files.Given as goal

abbrev pub invariant-loop-i : goal.invariant-loop-i
invariant-loop-i l =
    (p : List ℕ) (j : ℕ) → j < l.n
    → (flagged l.initial.flags j || has_open_deletes (delete_files_in l.delete_files p l.m) (data_file_at l.data_files j).id) ≡ (flagged l.flags j || has_open_deletes (from (delete_file_at l.delete_files p) l.i l.m) (data_file_at l.data_files j).id)
