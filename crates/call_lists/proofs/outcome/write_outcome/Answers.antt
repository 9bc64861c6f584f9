-- The words are written one after another.
use Prim.Native.Nat.{◌*◌}
use native.Mathlib.Numerals.{towards_suc}
use native.Mathlib.Omega.{arith}
use lib.ListN.{length-set}
use Rattle.lists.proofs.Runs.{overwrite_sets}
use Rattle.call_lists.specs.Playing.{told_size, told_words}
use Rattle.call_lists.proofs.outcome.write_outcome.Goals as goal

pub bounds-w-k-2 : goal.bounds-w-k-2
bounds-w-k-2 c = simp length-set (omega arith)

pub bounds-w-k-3 : goal.bounds-w-k-3
bounds-w-k-3 c = simp length-set (omega arith)

pub returns : goal.returns
unfolding told_words
returns c = simp towards_suc (overwrite_sets c.args.w.now (told_size * c.args.i) (told_words c.args.o) c.requires)
