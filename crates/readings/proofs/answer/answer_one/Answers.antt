-- `answer_one` meets its contract: one word, where there is room for it.
use mathlib.Core.Path.{refl, sym, ◌∙◌}
use mathlib.Core.List.{◌∷◌, []}
use Prim.Native.Nat.{◌+◌}
use lib.ListN.{set}
use Rattle.lists.proofs.Runs.{overwrite_set, overwrite_none}
use Rattle.readings.proofs.AnswerAreas.{answered_short, answered_whole}
use Rattle.readings.proofs.answer.answer_one.Goals as goal

pub returns-then-area-lt1 : goal.returns-then-area-lt1
returns-then-area-lt1 c = answered_short _ _ refl c.if-area-lt1.true

pub returns : goal.returns
returns c =
    let a = c.args in
    answered_whole (a.id ∷ []) a.area.now refl c.if-area-lt1.false
    (sym (overwrite_set a.area.now 0 a.id [] c.if-area-lt1.false ∙ overwrite_none (set a.area.now 0 a.id) (0 + 1)))
