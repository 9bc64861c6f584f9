-- `statistics_on_files` meets its contract: the loop looks up the data file of each record, and it is there just where it has a place.
use Rattle.std.proofs.Common.{◌≡◌}
use Rattle.lists.specs.Lists.{all}
use Rattle.lists.specs.Runs.{from}
use Rattle.layout.specs.Words.{data_files_in, statistics_at, statistics_in}
use Rattle.ducklake.specs.Soundness.{statistics_on_file}
use Rattle.soundness_statistics.proofs.statistics.statistics_on_files.Given as goal

abbrev pub invariant-loop-i : goal.invariant-loop-i
invariant-loop-i l =
    all (statistics_on_file (data_files_in l.data_files l.n)) (statistics_in l.statistics l.m) ≡ all (statistics_on_file (data_files_in l.data_files l.n)) (from (statistics_at l.statistics) l.i l.m)
