-- `positions_before` meets its contract: the sum so far is what the delete files before i have.
use mathlib.Core.Path.{sym}
use native.Mathlib.Omega.{arith}
use Rattle.layout.specs.Words.{positions_first}
use Rattle.lookup.proofs.Locations.{positions_next, positions_room}
use Rattle.lookup.proofs.positions.positions_before.Goals as goal

pub loop-i-init : goal.loop-i-init
loop-i-init c = sym (positions_first _)

pub overflow_add-sum : goal.overflow_add-sum
overflow_add-sum c = omega (arith, positions_room _ _ c.loop-i.invariant c.delete_file_delete_count-count.ensures c.loop-i-test.true)

pub loop-i-preserved : goal.loop-i-preserved
loop-i-preserved c = positions_next _ _ c.loop-i.invariant c.delete_file_delete_count-count.ensures
