-- `find_near` meets its contract: a word that is x is the only one, wherever it is seen.
use Rattle.std.proofs.Common.{sym, ◌∙◌}
use Rattle.runs.proofs.Places.{here}
use Rattle.runs.proofs.fields.Fields.find_near.Goals as goal

pub returns-then-y-x : goal.returns-then-y-x
returns-then-y-x c = sym (here _ _ _ c.requires _ c.if-near-self.true (sym c.get-y.ensures ∙ c.if-y-x.true))
