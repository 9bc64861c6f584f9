-- The statistics of a data file stand together: the record for the column is among them or nowhere.
use mathlib.Core.Path.{◌≡◌}
use Rattle.lists.specs.Lists.{any}
use Rattle.lists.specs.Runs.{from}
use Rattle.layout.specs.Words.{statistics_at}
use Rattle.scans.proofs.Statistics.{admitted}
use Rattle.scans.proofs.filter.file_admits.Given as goal

abbrev pub invariant-loop-i : goal.invariant-loop-i
invariant-loop-i l =
    any (admitted l.column l.scalar) (from (statistics_at l.statistics) l.initial.i l.i-end) ≡ any (admitted l.column l.scalar) (from (statistics_at l.statistics) l.i l.i-end)
