-- `first_unsound` meets its contract: counts without room fail the first line; else there is scratch for as many records as there are.
use mathlib.Core.Path.{sym, ap, ◌∙◌}
use Rattle.layout.specs.Lent.{words_lent}
use Rattle.layout.specs.Words.{within}
use Rattle.soundness.proofs.Lines.{all_left, stops, by_first}
use Rattle.soundness.proofs.TestPremises.{none_above_limit}
use Rattle.soundness.proofs.check.first_unsound.Goals as goal

pub returns-then-not-held : goal.returns-then-not-held
returns-then-not-held c =
    stops (all_left (words_lent c.args.lent) _) (by_first _ (sym (c.is_within-held.ensures ∙ ap (within _) c.capacity-room.ensures) ∙ c.if-not-held.true))

pub unsound_in-requires-2-clause-few : goal.unsound_in-requires-2-clause-few
unsound_in-requires-2-clause-few c =
    none_above_limit (words_lent c.args.lent) _ (sym (c.is_within-held.ensures ∙ ap (within _) c.capacity-room.ensures) ∙ c.if-not-held.false)
