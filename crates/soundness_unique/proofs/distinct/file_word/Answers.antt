-- `file_word` meets its contract: the place tells the table.
use borrow.Author.Rules.{rules}
use mathlib.Core.Path.{sym, ◌∙◌}
use Rattle.soundness_unique.proofs.FileKeys.{word_of_data, word_of_delete, word_of_scheduled}
use Rattle.soundness_unique.proofs.distinct.file_word.Goals as goal

pub returns-then-p-n : goal.returns-then-p-n
returns-then-p-n c = c.field_at.ensures ∙ sym (word_of_data _ _ _ _ _ _ (search rules))

pub returns-then-p-n-2 : goal.returns-then-p-n-2
returns-then-p-n-2 c = c.field_at-then-p-n-2.ensures ∙ sym (word_of_delete _ _ _ _ _ _ _ (search rules) (search rules))

pub returns : goal.returns
returns c = c.field_at-2.ensures ∙ sym (word_of_scheduled _ _ _ _ _ _ _ (search rules))
