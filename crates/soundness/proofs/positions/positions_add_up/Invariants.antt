-- `positions_add_up` meets its contract: the sum so far is that of the delete files passed, and sums never fall.
use Prim.Native.Nat.{◌≤◌}
use mathlib.Core.Path.{◌≡◌}
use Rattle.layout.specs.Words.{positions_before}
use Rattle.soundness.proofs.positions.positions_add_up.Given as goal

abbrev pub invariant-loop-i : goal.invariant-loop-i
invariant-loop-i l = (l.sum ≡ positions_before l.delete_files l.i) × (l.sum ≤ l.total)
