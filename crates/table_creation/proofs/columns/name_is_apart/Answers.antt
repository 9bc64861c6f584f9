-- `name_is_apart` meets its contract: the loop goes on while no later name clashes.
use mathlib.Core.Path.{sym, ap, ◌∙◌}
use mathlib.Core.Bool.{not}
use native.Mathlib.Omega.{arith}
use Rattle.lists.proofs.Loops.{all_pass, all_fail, all_end}
use Rattle.table_creation.proofs.columns.name_is_apart.Goals as goal

pub returns-then-names_clash : goal.returns-then-names_clash
returns-then-names_clash c table words =
    sym (c.loop-j.invariant table words ∙ all_fail _ _ _ _ (omega arith) (ap not (sym c.names_clash.ensures ∙ c.if-names_clash.true)))

pub loop-j-preserved : goal.loop-j-preserved
loop-j-preserved c table words =
    c.loop-j.invariant table words ∙ all_pass _ _ _ _ (omega arith) (ap not (sym c.names_clash.ensures ∙ c.if-names_clash.false))

pub returns : goal.returns
returns c table words = sym (c.loop-j.invariant table words ∙ all_end _ _ _ _ (omega arith))
