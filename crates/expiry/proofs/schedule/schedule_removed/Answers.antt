-- `schedule_removed` meets its contract: each turn passes the file of the lowest id that is left, and writes it, if it goes, behind those written before.
use mathlib.Core.Path.{ap}
use mathlib.Core.Bool.{not}
use native.Mathlib.Omega.{arith}
use Rattle.expiry.proofs.Merged.{next_data_file, data_file_fits, data_file_scheduled_lem, data_file_kept, next_delete_file, delete_file_fits, delete_file_scheduled_lem, delete_file_kept, scheduling_done}
use Rattle.expiry.proofs.schedule.schedule_removed.Goals.{then-not-live, else-not-live, then-not-live-2, else-not-live-2}
use Rattle.expiry.proofs.schedule.schedule_removed.Goals as goal

-- the next is a data file
pub stays-live-requires : goal.stays-live-requires
stays-live-requires c =
    next_data_file c.loop-i.invariant c.data_file_next-first.ensures c.if-first.true

pub data_file_at-f-requires : goal.data_file_at-f-requires
data_file_at-f-requires c =
    omega (arith, c.requires.0.data_files_by_id.lent, next_data_file c.loop-i.invariant c.data_file_next-first.ensures c.if-first.true)

pub schedule_file-requires : goal.schedule_file-requires
schedule_file-requires c =
    data_file_fits c.loop-i.invariant c.data_file_next-first.ensures c.if-first.true c.stays-live.ensures (ap not c.if-not-live.true)

pub overflow_add-at : goal.overflow_add-at
overflow_add-at c =
    omega (arith, data_file_fits c.loop-i.invariant c.data_file_next-first.ensures c.if-first.true c.stays-live.ensures (ap not c.if-not-live.true))

pub loop-i-preserved-then-first : goal.loop-i-preserved-then-first
loop-i-preserved-then-first c = elim c.if-not-live.branch [
  | then-not-live w ↦ rw (w.scheduled-is, w.at-is)
      (data_file_scheduled_lem c.loop-i.invariant c.data_file_next-first.ensures c.if-first.true c.stays-live.ensures (ap not w.if-not-live.true)
      w.data_file_at-f.ensures w.schedule_file.ensures w.schedule_file.auto.scheduled)
  | else-not-live w ↦ rw (w.scheduled-is, w.at-is)
      (data_file_kept c.loop-i.invariant c.data_file_next-first.ensures c.if-first.true c.stays-live.ensures (ap not w.if-not-live.false))
]

-- the next is a delete file
pub stays-live-requires-else-first : goal.stays-live-requires-else-first
stays-live-requires-else-first c =
    next_delete_file c.loop-i.invariant c.data_file_next-first.ensures c.loop-i-test.true c.if-first.false

pub delete_file_at-d-requires : goal.delete_file_at-d-requires
delete_file_at-d-requires c =
    omega (arith, c.requires.0.delete_files_by_id.lent, next_delete_file c.loop-i.invariant c.data_file_next-first.ensures c.loop-i-test.true c.if-first.false)

pub schedule_file-requires-then-not-live-2 : goal.schedule_file-requires-then-not-live-2
schedule_file-requires-then-not-live-2 c =
    delete_file_fits c.loop-i.invariant c.data_file_next-first.ensures c.loop-i-test.true c.if-first.false c.stays-live-else-first.ensures (ap not c.if-not-live-2.true)

pub overflow_add-at-then-not-live-2 : goal.overflow_add-at-then-not-live-2
overflow_add-at-then-not-live-2 c =
    omega (arith, delete_file_fits c.loop-i.invariant c.data_file_next-first.ensures c.loop-i-test.true c.if-first.false c.stays-live-else-first.ensures (ap not c.if-not-live-2.true))

pub loop-i-preserved : goal.loop-i-preserved
loop-i-preserved c = elim c.if-not-live-2.branch [
  | then-not-live-2 w ↦ rw (w.scheduled-is, w.at-is)
      (delete_file_scheduled_lem c.loop-i.invariant c.data_file_next-first.ensures c.loop-i-test.true c.if-first.false c.stays-live-else-first.ensures (ap not w.if-not-live-2.true)
      w.delete_file_at-d.ensures w.schedule_file-then-not-live-2.ensures w.schedule_file-then-not-live-2.auto.scheduled)
  | else-not-live-2 w ↦ rw (w.scheduled-is, w.at-is)
      (delete_file_kept c.loop-i.invariant c.data_file_next-first.ensures c.loop-i-test.true c.if-first.false c.stays-live-else-first.ensures (ap not w.if-not-live-2.false))
]

pub returns : goal.returns
returns c = scheduling_done c.loop-i.invariant (omega (arith, c.loop-i-test.false)) (omega (arith, c.loop-i-test.false))
