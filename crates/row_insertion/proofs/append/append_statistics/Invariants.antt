-- `append_statistics` meets its contract: each turn writes the next record behind those before it.
use mathlib.Core.Path.{◌≡◌}
use Rattle.row_insertion.proofs.Appended.{all_laid, left_laid}
use Rattle.row_insertion.proofs.append.append_statistics.Given as goal

abbrev pub invariant-loop-i : goal.invariant-loop-i
invariant-loop-i l =
    (all_laid l.data_file.0 l.words l.initial.statistics l.n ≡ left_laid l.data_file.0 l.words l.n l.given l.statistics l.i)
