-- `words_ascend` meets its contract: the only words of records of one word are the run's.
use Rattle.std.proofs.Common.{ltb, refl, ap, ◌∙◌}
use Rattle.lists.specs.Lists.{chained}
use Rattle.lists.proofs.Layouts.{fields_words}
use Rattle.runs.proofs.words.words_ascend.Goals as goal

pub returns : goal.returns
returns c = c.ascend.ensures ∙ ap (chained ltb) (fields_words _ _ refl)
