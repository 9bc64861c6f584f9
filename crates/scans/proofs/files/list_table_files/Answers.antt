-- `list_table_files` keeps the promise: refused, or the answer or 3.
use mathlib.Core.Path.{refl}
use Rattle.layout.proofs.Refusals.{not_accepted}
use Rattle.readings.proofs.Promises.{reading_refused, reading_answered, reading_sound}
use Rattle.scans.proofs.Answers.{files_answer}
use Rattle.scans.proofs.Lent.{only_tables}
use Rattle.scans.proofs.SoundTables.{files_readable}
use Rattle.scans.proofs.files.list_table_files.Goals as goal

pub refuse_table-requires : goal.refuse_table-requires
refuse_table-requires c = only_tables c.requires

pub returns-in-Err : goal.returns-in-Err
returns-in-Err c l =
    rw c.refused.ensures (reading_refused _ _ _ (c.in-Err.ensures (only_tables l)) _ (not_accepted _))

pub read_files-answer-requires : goal.read_files-answer-requires
read_files-answer-requires c =
    let l = c.requires in
    files_readable _ _ (reading_sound _ _ _ (c.in_default.ensures (only_tables l)) refl) l.data_files l.delete_files l.statistics

pub returns : goal.returns
returns c l =
    rw c.answered.ensures (reading_answered _ _ _ (c.in_default.ensures (only_tables l)) _ refl (files_answer _ _ _ _ l.data_files l.delete_files l.statistics) (c.read_files-answer.ensures _))
