-- `names_are_apart` meets its contract: the loop compares each name with the later ones.
use mathlib.Core.Path.{sym, ◌∙◌}
use native.Mathlib.Omega.{arith}
use Rattle.lists.proofs.Loops.{pairwise_pass, pairwise_fail, pairwise_end}
use Rattle.table_creation.proofs.columns.names_are_apart.Goals as goal

pub returns-then-not-name_is_apart : goal.returns-then-not-name_is_apart
returns-then-not-name_is_apart c table words =
    sym (c.loop-i.invariant table words ∙ pairwise_fail _ _ _ _ (omega arith) (sym (c.name_is_apart.ensures table words) ∙ c.if-not-name_is_apart.true))

pub loop-i-preserved : goal.loop-i-preserved
loop-i-preserved c table words =
    c.loop-i.invariant table words ∙ pairwise_pass _ _ _ _ (omega arith) (sym (c.name_is_apart.ensures table words) ∙ c.if-not-name_is_apart.false)

pub returns : goal.returns
returns c table words = sym (c.loop-i.invariant table words ∙ pairwise_end _ _ _ _ (omega arith))
