-- `position_starts` meets its contract: the sum so far is what the delete files before i have, and each is written at its place.
use borrow.Author.Rules.{rules}
use mathlib.Core.Path.{sym, ◌∙◌}
use native.Mathlib.Omega.{arith}
use lib.ListN.{length-set}
use Rattle.lists.proofs.Loops.{filled_start, filled_next, filled_end}
use Rattle.layout.specs.Words.{positions_first}
use Rattle.lookup.proofs.Locations.{positions_next, positions_room}
use Rattle.lookup.proofs.positions.position_starts.Goals as goal

pub loop-i-init : goal.loop-i-init
loop-i-init c = (search rules, sym (positions_first _), filled_start _ _ _)

pub overflow_add-sum : goal.overflow_add-sum
overflow_add-sum c = omega (arith, positions_room _ _ c.loop-i.invariant.1 c.delete_file_delete_count-count.ensures c.loop-i-test.true)

pub loop-i-preserved : goal.loop-i-preserved
loop-i-preserved c =
    let v = c.loop-i.invariant in (
      simp length-set v.0,
      positions_next _ _ v.1 c.delete_file_delete_count-count.ensures,
      v.2 ∙ filled_next _ _ _ _ _ c.loop-i-test.true (omega arith) v.1,
    )

pub returns : goal.returns
returns c = sym (c.loop-i.invariant.2 ∙ filled_end _ _ _ _ c.loop-i-test.false)
