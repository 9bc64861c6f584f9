-- `write_scheduled` meets its contract: the words are written one after another, in the order of the layout.
use Prim.Native.Nat.{◌*◌}
use native.Mathlib.Numerals.{towards_suc}
use native.Mathlib.Omega.{arith}
use lib.ListN.{length-set}
use Rattle.lists.proofs.Runs.{overwrite_sets}
use Rattle.layout.specs.Fields.{scheduled_size}
use Rattle.layout.specs.Records.{scheduled_words}
use Rattle.records.proofs.scheduled.write_scheduled.Goals as goal

pub bounds-w-k-2 : goal.bounds-w-k-2
bounds-w-k-2 c = simp length-set (omega arith)

pub bounds-w-k-3 : goal.bounds-w-k-3
bounds-w-k-3 c = simp length-set (omega arith)

pub bounds-w-k-4 : goal.bounds-w-k-4
bounds-w-k-4 c = simp length-set (omega arith)

pub returns : goal.returns
unfolding scheduled_words
returns c = simp towards_suc (overwrite_sets c.args.w.now (scheduled_size * c.args.i) (scheduled_words c.args.r) c.requires)
