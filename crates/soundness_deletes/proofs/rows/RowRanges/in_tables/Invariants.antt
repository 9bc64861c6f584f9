-- `in_tables` meets its contract: the loop reads and judges one data file after the other.
use Prim.Native.Nat.{ℕ}
use mathlib.Core.Path.{◌≡◌}
use mathlib.Core.List.{List}
use Rattle.lists.specs.Lists.{all}
use Rattle.lists.specs.Runs.{from}
use Rattle.layout.specs.Words.{tables_in, data_file_at, data_files_in}
use Rattle.ducklake.specs.Soundness.{rows_in_table}
use Rattle.soundness_deletes.proofs.rows.RowRanges.in_tables.Given as goal

abbrev pub invariant-loop-i : goal.invariant-loop-i
invariant-loop-i l =
    (names : List ℕ) → all (rows_in_table (tables_in l.self.tables.now names l.self.counts.tables)) (data_files_in l.self.data_files.now l.self.counts.data_files)
    ≡ all (rows_in_table (tables_in l.self.tables.now names l.self.counts.tables)) (from (data_file_at l.self.data_files.now) l.i l.self.counts.data_files)
