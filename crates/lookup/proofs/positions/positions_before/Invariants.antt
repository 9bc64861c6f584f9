-- `positions_before` meets its contract: the sum so far is what the delete files before i have.
use mathlib.Core.Path.{◌≡◌}
use Rattle.layout.specs.Words.{positions_before}
use Rattle.lookup.proofs.positions.positions_before.Given as goal

abbrev pub invariant-loop-i : goal.invariant-loop-i
invariant-loop-i l = (l.sum ≡ positions_before l.delete_files l.i)
