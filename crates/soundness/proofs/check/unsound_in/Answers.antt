-- `unsound_in` meets its contract: a line of the records that fails is the answer, else the answer is among the others; its scratch is long enough for
-- so many records.
use native.Mathlib.Omega.{arith}
use Rattle.soundness.proofs.TestPremises.{snapshots_lent_lem, nestable}
use Rattle.soundness.proofs.check.unsound_in.Goals as goal

pub invariant_of-snapshot_ids : goal.invariant_of-snapshot_ids
invariant_of-snapshot_ids g c = record { lent = snapshots_lent_lem _ _ c.requires.room; inside = omega arith }

pub locate_references-requires : goal.locate_references-requires
locate_references-requires g c =
    let r = c.records_unsound-line.ensures.passes c.if-line-ne-SOUND.false in
    nestable _ _ r.room r.ascend
