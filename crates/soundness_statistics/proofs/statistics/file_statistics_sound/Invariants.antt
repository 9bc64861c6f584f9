-- `file_statistics_sound` meets its contract: each turn passes the next column, and with it, where its statistics are wanted, the next record.
use Rattle.std.proofs.Common.{◌≡◌, ℕ, ◌≤◌, List}
use Rattle.layout.specs.Catalog.{data_file_of}
use Rattle.layout.specs.Words.{columns_in, statistics_at, statistics_in}
use Rattle.ducklake.specs.Soundness.{file_statistics_sound}
use Rattle.soundness_statistics.proofs.FileStatistics.{judged}
use Rattle.soundness_statistics.proofs.statistics.file_statistics_sound.Given as goal

abbrev pub invariant-loop-c : goal.invariant-loop-c
invariant-loop-c l =
    (l.x ≤ l.given.end)
    × ((names : List ℕ) → file_statistics_sound (columns_in l.columns names l.n) (statistics_in l.statistics l.m) (data_file_of l.file)
    ≡ judged l.columns names (statistics_at l.statistics) l.file.record_count l.file.begin.0 l.fn.own.end l.given.end l.c l.x)
