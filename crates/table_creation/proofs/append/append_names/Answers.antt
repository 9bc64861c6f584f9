-- `append_names` meets its contract: each byte of the name places is written in turn.
use Prim.Native.Nat.{◌+◌, ◌*◌}
use mathlib.Core.Path.{refl, sym, ◌∙◌}
use native.Mathlib.Nat.{add-zero}
use native.Mathlib.Omega.{arith}
use lib.ListN.{length-set, drop_of_length-le}
use Rattle.lists.proofs.Runs.{overwrite_none}
use Rattle.lists.proofs.Windows.{rest_step, overwrite_next}
use Rattle.layout.specs.Names.{name_size}
use Rattle.table_creation.proofs.append.append_names.Goals as goal

pub loop-k-init : goal.loop-k-init
loop-k-init c = (refl, rw add-zero refl)

pub loop-k-preserved : goal.loop-k-preserved
loop-k-preserved c =
    let l = c.loop-k in (
      simp length-set l.invariant.0,
      l.invariant.1 ∙ overwrite_next l.names (name_size * c.args.n) l.k _ (omega arith) (rest_step 0 c.args.new_names.now l.k (omega arith)),
    )

pub returns : goal.returns
returns c =
    let l = c.loop-k in
    sym (l.invariant.1 ∙ rw (drop_of_length-le c.args.new_names.now {i = l.k} (omega arith)) (overwrite_none l.names (name_size * c.args.n + l.k)))
