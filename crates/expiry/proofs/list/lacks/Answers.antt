-- `lacks` meets its contract: the library's test is the definition's.
use mathlib.Core.Path.{ap, ◌∙◌}
use mathlib.Core.Bool.{not}
use Rattle.expiry.proofs.Listed.{has_as}
use Rattle.expiry.proofs.list.lacks.Goals as goal

pub returns : goal.returns
returns c = ap not (c.contains.ensures.value ∙ has_as _ c.args.ids.now)
