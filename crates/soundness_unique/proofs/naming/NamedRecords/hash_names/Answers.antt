-- `hash_names` meets its contract: each hash is written in its turn.
use mathlib.Core.Path.{sym, ◌∙◌}
use native.Mathlib.Omega.{arith}
use lib.ListN.{length-set}
use Rattle.lists.proofs.Loops.{filled_start, filled_next, filled_end, filled_whole}
use Rattle.soundness_unique.proofs.naming.NamedRecords.hash_names.Goals as goal

pub loop-p-preserved : goal.loop-p-preserved
loop-p-preserved c =
    let l = c.loop-p.invariant in
    (rw length-set l.0, l.1 ∙ filled_next _ _ _ _ _ c.loop-p-test.true (omega arith) c.name_hash.ensures)

pub returns : goal.returns
returns c =
    let l = c.loop-p.invariant in
    filled_whole _ _ c.args.hashes.now l.0 (sym (filled_start _ _ _ ∙ (l.1 ∙ filled_end _ _ _ _ c.loop-p-test.false)))
