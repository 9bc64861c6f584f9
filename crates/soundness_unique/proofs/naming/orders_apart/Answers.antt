-- `orders_apart` meets its contract: where tables and orders ascend, no two columns share both.
use mathlib.Core.Path.{sym, ◌∙◌}
use Rattle.soundness_unique.proofs.Ascending.{orders_ascend}
use Rattle.soundness_unique.proofs.naming.orders_apart.Goals as goal

pub returns-then-ascend : goal.returns-then-ascend
returns-then-ascend c =
    sym (orders_ascend _ _ (sym c.ascend_then-ascend.ensures ∙ c.if-ascend.true))
