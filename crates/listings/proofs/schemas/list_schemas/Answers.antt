-- `list_schemas` keeps the promise: refused, or the answer or 3.
use mathlib.Core.Path.{refl}
use Rattle.layout.proofs.Refusals.{not_accepted}
use Rattle.readings.proofs.Promises.{reading_refused, reading_answered, reading_sound}
use Rattle.readings.proofs.Found.{schemas_by_id_lem}
use Rattle.listings.proofs.Answers.{schemas_answer}
use Rattle.listings.proofs.Lent.{only_snapshots}
use Rattle.listings.proofs.schemas.list_schemas.Goals as goal

pub refuse_schemas-requires : goal.refuse_schemas-requires
refuse_schemas-requires c = only_snapshots c.requires

pub returns-in-Err : goal.returns-in-Err
returns-in-Err c l =
    rw c.refused.ensures (reading_refused _ _ _ (c.in-Err.ensures (only_snapshots l)) _ (not_accepted _))

pub read_schemas-answer-requires : goal.read_schemas-answer-requires
read_schemas-answer-requires c =
    let l = c.requires in
    (schemas_by_id_lem _ _ (reading_sound _ _ _ (c.in_default.ensures (only_snapshots l)) refl) l.schemas).lent

pub returns : goal.returns
returns c l =
    rw c.answered.ensures (reading_answered _ _ _ (c.in_default.ensures (only_snapshots l)) _ refl (schemas_answer _ _ _ l.schemas) (c.read_schemas-answer.ensures _))
