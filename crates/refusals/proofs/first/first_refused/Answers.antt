-- `first_refused` meets its contract: what is told is a refusal.
use mathlib.Core.Path.{◌∙◌}
use Rattle.layout.specs.Refusals.{refusal_number}
use Rattle.refusals.proofs.Tests.{number_by_refusal}
use Rattle.refusals.proofs.first.first_refused.Goals as goal

pub returns : goal.returns
returns c = number_by_refusal c.first_failed.result ∙ c.first_failed.ensures refusal_number
