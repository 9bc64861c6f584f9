-- `list_filtered_files` keeps the promise: refused, or the answer or 3.
use mathlib.Core.Path.{refl}
use mir.Facts.{to_z-of_z}
use Rattle.layout.proofs.Refusals.{not_accepted}
use Rattle.readings.proofs.Promises.{reading_refused, reading_answered, reading_sound}
use Rattle.scans.proofs.Answers.{filtered_answer}
use Rattle.scans.proofs.Lent.{only_columns}
use Rattle.scans.proofs.SoundTables.{files_readable}
use Rattle.scans.proofs.filtered.list_filtered_files.Goals as goal

pub refuse_column-requires : goal.refuse_column-requires
refuse_column-requires c = only_columns c.requires

pub returns-in-Err : goal.returns-in-Err
returns-in-Err c l =
    rw c.refused.ensures (reading_refused _ _ _ (c.in-Err.ensures (only_columns l) _) _ (not_accepted _))

pub read_files-answer-requires : goal.read_files-answer-requires
read_files-answer-requires c =
    let l = c.requires in
    files_readable _ _ (reading_sound _ _ _ (c.in_default.ensures (only_columns l) c.args.scalar) refl) l.data_files l.delete_files l.statistics

pub returns : goal.returns
returns c l =
    rw c.answered.ensures (reading_answered _ _ _ (c.in_default.ensures (only_columns l) _) _ refl (filtered_answer _ _ _ _ l.data_files l.delete_files l.statistics _ (to_z-of_z c.ranges.scalar)) (c.read_files-answer.ensures _))
