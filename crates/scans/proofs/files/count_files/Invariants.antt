-- The loop counts the data files that pass both tests.
use Prim.Native.Nat.{◌≤◌}
use mathlib.Core.Path.{◌≡◌}
use lib.ListN.{length}
use Rattle.lists.proofs.Loops.{counted}
use Rattle.layout.specs.Words.{data_file_at, data_files_in, statistics_in}
use Rattle.scans.specs.Filters.{is_read, files_read}
use Rattle.scans.proofs.files.count_files.Given as goal

abbrev pub invariant-loop-i : goal.invariant-loop-i
invariant-loop-i l =
    (l.k ≤ l.i) × (length (files_read l.filter (statistics_in l.statistics l.q) (data_files_in l.data_files l.n) l.s.0 l.table.0)
    ≡ counted (data_file_at l.data_files) (is_read l.filter (statistics_in l.statistics l.q) l.table.0 l.s.0) l.n l.k l.i)
