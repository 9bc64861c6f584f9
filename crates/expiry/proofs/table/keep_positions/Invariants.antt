-- `keep_positions` meets its contract: each turn copies the positions of its delete file down, if it stays; the rest is cleared.
use Prim.Native.Nat.{◌≤◌}
use mathlib.Core.Path.{◌≡◌}
use lib.ListN.{length}
use Rattle.lists.specs.Pieces.{flagged}
use Rattle.lists.proofs.Compaction.{compacted}
use Rattle.layout.specs.Words.{positions_before, position_pieces}
use Rattle.expiry.proofs.table.keep_positions.Given as goal

abbrev pub invariant-loop-i : goal.invariant-loop-i
invariant-loop-i l =
    (l.k ≤ l.at) × (l.at ≡ positions_before l.delete_files l.i) × (length l.positions ≡ length l.initial.positions)
    × (compacted 0 (position_pieces l.delete_files) (flagged l.flags) l.n l.initial.positions 0 0 ≡ compacted 0 (position_pieces l.delete_files) (flagged l.flags) l.n l.positions l.k l.i)
