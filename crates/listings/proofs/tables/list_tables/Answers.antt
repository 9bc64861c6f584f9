-- `list_tables` keeps the promise: refused, or the answer or 3.
use mathlib.Core.Path.{refl}
use Rattle.layout.proofs.Refusals.{not_accepted}
use Rattle.readings.proofs.Promises.{reading_refused, reading_answered, reading_sound}
use Rattle.readings.proofs.Found.{tables_by_id_lem}
use Rattle.listings.proofs.Answers.{tables_answer}
use Rattle.listings.proofs.Lent.{only_schemas}
use Rattle.listings.proofs.tables.list_tables.Goals as goal

pub refuse_tables-requires : goal.refuse_tables-requires
refuse_tables-requires c = only_schemas c.requires

pub returns-in-Err : goal.returns-in-Err
returns-in-Err c l =
    rw c.refused.ensures (reading_refused _ _ _ (c.in-Err.ensures (only_schemas l)) _ (not_accepted _))

pub read_tables-answer-requires : goal.read_tables-answer-requires
read_tables-answer-requires c =
    let l = c.requires in
    (tables_by_id_lem _ _ (reading_sound _ _ _ (c.in_default.ensures (only_schemas l)) refl) l.tables).lent

pub returns : goal.returns
returns c l =
    rw c.answered.ensures (reading_answered _ _ _ (c.in_default.ensures (only_schemas l)) _ refl (tables_answer _ _ _ _ l.tables) (c.read_tables-answer.ensures _))
