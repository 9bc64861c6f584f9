-- `all_file_statistics_sound` meets its contract: the loop reads and judges one data file after the other.
use Rattle.std.proofs.Common.{◌≡◌, ℕ, List}
use Rattle.lists.specs.Lists.{all}
use Rattle.lists.specs.Runs.{from}
use Rattle.layout.specs.Words.{columns_in, statistics_in, data_file_at, data_files_in}
use Rattle.ducklake.specs.Soundness.{file_statistics_sound}
use Rattle.soundness_statistics.proofs.statistics.all_file_statistics_sound.Given as goal

abbrev pub invariant-loop-i : goal.invariant-loop-i
invariant-loop-i l =
    (names : List ℕ)
    → all (file_statistics_sound (columns_in l.columns names l.fn.counts.columns) (statistics_in l.statistics l.fn.counts.statistics)) (data_files_in l.data_files l.fn.counts.data_files)
    ≡ all (file_statistics_sound (columns_in l.columns names l.fn.counts.columns) (statistics_in l.statistics l.fn.counts.statistics)) (from (data_file_at l.data_files) l.i l.fn.counts.data_files)
