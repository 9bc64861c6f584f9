-- `write_name` meets its contract: each byte of the padded name is written in turn.
use Prim.Native.Nat.{◌+◌, ◌*◌}
use mathlib.Core.Path.{refl, sym, ◌∙◌}
use native.Mathlib.Nat.{add-zero}
use native.Mathlib.Omega.{arith}
use lib.ListN.{length-set}
use Rattle.lists.proofs.Runs.{overwrite_none}
use Rattle.lists.proofs.Windows.{overwrite_next}
use Rattle.layout.specs.Names.{name_size}
use Rattle.layout.proofs.Names.{padded_step, padded_end}
use Rattle.names.proofs.write_name.Goals as goal

pub loop-k-preserved : goal.loop-k-preserved
loop-k-preserved c =
    let l = c.loop-k in
    (simp length-set l.invariant.0, l.invariant.1 ∙ overwrite_next l.names (name_size * c.args.i) l.k c.padded_byte.result (omega arith) (padded_step c.args.name.now c.requires.1 l.k c.loop-k-test.true c.padded_byte.ensures))

pub returns : goal.returns
returns c =
    let l = c.loop-k in
    sym (l.invariant.1 ∙ rw (padded_end c.args.name.now c.requires.1 l.k c.loop-k-test.false) (overwrite_none l.names (name_size * c.args.i + l.k)))
