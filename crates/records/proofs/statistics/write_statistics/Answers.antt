-- `write_statistics` meets its contract: the words are written one after another, in the order of the layout.
use Prim.Native.Nat.{◌*◌}
use native.Mathlib.Numerals.{towards_suc}
use native.Mathlib.Omega.{arith}
use lib.ListN.{length-set}
use Rattle.lists.proofs.Runs.{overwrite_sets}
use Rattle.layout.specs.Fields.{statistics_size}
use Rattle.layout.specs.Records.{statistics_words}
use Rattle.records.proofs.statistics.write_statistics.Goals as goal

pub bounds-w-k-2 : goal.bounds-w-k-2
bounds-w-k-2 c = simp length-set (omega arith)

pub bounds-w-k-3 : goal.bounds-w-k-3
bounds-w-k-3 c = simp length-set (omega arith)

pub bounds-w-k-4 : goal.bounds-w-k-4
bounds-w-k-4 c = simp length-set (omega arith)

pub bounds-w-k-5 : goal.bounds-w-k-5
bounds-w-k-5 c = simp length-set (omega arith)

pub bounds-w-k-6 : goal.bounds-w-k-6
bounds-w-k-6 c = simp length-set (omega arith)

pub bounds-w-k-7 : goal.bounds-w-k-7
bounds-w-k-7 c = simp length-set (omega arith)

pub returns : goal.returns
unfolding statistics_words
returns c = simp towards_suc (overwrite_sets c.args.w.now (statistics_size * c.args.i) (statistics_words c.args.r) c.requires)
