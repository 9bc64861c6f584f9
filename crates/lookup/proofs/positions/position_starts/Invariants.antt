-- `position_starts` meets its contract: the sum so far is what the delete files before i have, and each is written at its place.
use mathlib.Core.Path.{◌≡◌}
use mathlib.Core.List.{map}
use lib.ListN.{length}
use Rattle.lists.specs.Lists.{range}
use Rattle.lists.specs.Runs.{overwrite}
use Rattle.lists.proofs.Loops.{filled}
use Rattle.layout.specs.Words.{positions_before}
use Rattle.lookup.proofs.positions.position_starts.Given as goal

abbrev pub invariant-loop-i : goal.invariant-loop-i
invariant-loop-i l =
    (length l.starts ≡ length l.initial.starts) × (l.sum ≡ positions_before l.delete_files l.i)
    × (overwrite l.initial.starts 0 (map (positions_before l.delete_files) (range 0 l.n)) ≡ filled (positions_before l.delete_files) l.n l.starts l.i)
