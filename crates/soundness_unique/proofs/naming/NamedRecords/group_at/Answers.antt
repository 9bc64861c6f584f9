-- `group_at` meets its contract: 0 where there is one group, else what the word holds.
use mathlib.Core.Path.{refl, ◌∙◌}
use Rattle.soundness_unique.proofs.NameKeys.{group_inside}
use Rattle.soundness_unique.proofs.naming.NamedRecords.group_at.Goals as goal

pub field_at-requires : goal.field_at-requires
field_at-requires c =
    (c.requires.0, group_inside c.in-Some.is c.requires.1)

pub returns-in-Some : goal.returns-in-Some
returns-in-Some c = c.field_at.ensures ∙ rw c.in-Some.is refl
