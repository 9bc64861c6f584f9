-- `column_names_apart` meets its contract: where tables ascend, no two columns are of one.
use mathlib.Core.Path.{sym, ◌∙◌}
use Rattle.soundness_unique.proofs.Ascending.{tables_ascend}
use Rattle.soundness_unique.proofs.naming.column_names_apart.Goals as goal

pub returns-then-alone : goal.returns-then-alone
returns-then-alone c =
    sym (tables_ascend _ _ _ (sym c.ascend-alone.ensures ∙ c.if-alone.true))
