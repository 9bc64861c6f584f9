-- `write_delete_file` meets its contract: the words are written one after another, in the order of the layout.
use Prim.Native.Nat.{◌*◌}
use native.Mathlib.Numerals.{towards_suc}
use native.Mathlib.Omega.{arith}
use lib.ListN.{length-set}
use Rattle.lists.proofs.Runs.{overwrite_sets}
use Rattle.layout.specs.Fields.{delete_file_size}
use Rattle.layout.specs.Records.{delete_file_words}
use Rattle.records.proofs.delete_file.write_delete_file.Goals as goal

pub bounds-w-k-2 : goal.bounds-w-k-2
bounds-w-k-2 c = simp length-set (omega arith)

pub bounds-w-k-3 : goal.bounds-w-k-3
bounds-w-k-3 c = simp length-set (omega arith)

pub bounds-w-k-4 : goal.bounds-w-k-4
bounds-w-k-4 c = simp length-set (omega arith)

pub bounds-w-k-5 : goal.bounds-w-k-5
bounds-w-k-5 c = simp length-set (omega arith)

pub bounds-w-k-6 : goal.bounds-w-k-6
bounds-w-k-6 c = simp length-set (omega arith)

pub bounds-w-k-7 : goal.bounds-w-k-7
bounds-w-k-7 c = simp length-set (omega arith)

pub bounds-w-k-8 : goal.bounds-w-k-8
bounds-w-k-8 c = simp length-set (omega arith)

pub returns : goal.returns
unfolding delete_file_words
returns c = simp towards_suc (overwrite_sets c.args.w.now (delete_file_size * c.args.i) (delete_file_words c.args.r) c.requires)
