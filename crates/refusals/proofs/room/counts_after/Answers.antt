-- `counts_after` meets its contract: it is the definition, count by count, and few counts add up without wrapping.
use native.Mathlib.Omega.{arith}
use mathlib.Core.Path.{refl}
use Rattle.call_laws.specs.Writes.{add_counts}
use Rattle.refusals.proofs.room.counts_after.Goals as goal

pub overflow_add-result : goal.overflow_add-result
unfolding add_counts
overflow_add-result c = omega (arith, c.requires.snapshots)

pub overflow_add-result-2 : goal.overflow_add-result-2
unfolding add_counts
overflow_add-result-2 c = omega (arith, c.requires.schemas)

pub overflow_add-result-3 : goal.overflow_add-result-3
unfolding add_counts
overflow_add-result-3 c = omega (arith, c.requires.tables)

pub overflow_add-result-4 : goal.overflow_add-result-4
unfolding add_counts
overflow_add-result-4 c = omega (arith, c.requires.columns)

pub overflow_add-result-5 : goal.overflow_add-result-5
unfolding add_counts
overflow_add-result-5 c = omega (arith, c.requires.data_files)

pub overflow_add-result-6 : goal.overflow_add-result-6
unfolding add_counts
overflow_add-result-6 c = omega (arith, c.requires.delete_files)

pub overflow_add-result-7 : goal.overflow_add-result-7
unfolding add_counts
overflow_add-result-7 c = omega (arith, c.requires.positions)

pub overflow_add-result-8 : goal.overflow_add-result-8
unfolding add_counts
overflow_add-result-8 c = omega (arith, c.requires.statistics)

pub overflow_add-result-9 : goal.overflow_add-result-9
unfolding add_counts
overflow_add-result-9 c = omega (arith, c.requires.scheduled)

pub returns : goal.returns
unfolding add_counts
returns c = refl
