-- `list_rows` keeps the promise: refused, or the answer or 3.
use mathlib.Core.Path.{refl}
use Rattle.layout.proofs.Refusals.{not_accepted}
use Rattle.readings.proofs.Judged.{rows_unanswered}
use Rattle.readings.proofs.Promises.{reading_refused, reading_answered, reading_sound}
use Rattle.row_lists.proofs.Lent.{only_tables}
use Rattle.row_lists.proofs.SoundRows.{rows_readable, rows_answer}
use Rattle.row_lists.proofs.rows.list_rows.Goals as goal

pub returns-in-Err : goal.returns-in-Err
returns-in-Err c l =
    rw c.refused.ensures (reading_refused _ _ _ (rows_unanswered _ _ _ _ (c.in-Err.ensures (only_tables l))) _ (not_accepted _))

pub read_rows-answer-requires : goal.read_rows-answer-requires
read_rows-answer-requires c =
    let l = c.requires in
    rows_readable _ _ _ (reading_sound _ _ _ (c.in_default.ensures (only_tables l)) refl) l.data_files l.delete_files l.positions

pub returns : goal.returns
returns c l =
    rw c.answered.ensures (reading_answered _ _ _ (rows_unanswered _ _ _ _ (c.in_default.ensures (only_tables l))) _ refl (rows_answer _ _ _ _ l.data_files l.delete_files l.positions) c.read_rows-answer.ensures)
