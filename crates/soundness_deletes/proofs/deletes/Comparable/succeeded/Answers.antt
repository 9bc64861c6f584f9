-- `succeeded` meets its contract: begins and ends as they were read, and both runs of positions ascend.
use mathlib.Core.Path.{sym, ap, ◌∙◌}
use lib.Dec.{ltb}
use borrow.Author.Tests.{ltb-true, ltb-false}
use Rattle.lists.proofs.Comparisons.{is_less}
use Rattle.lists.specs.Lists.{chained}
use Rattle.lists.specs.Runs.{field}
use Rattle.lists.proofs.Places.{all-at}
use Rattle.lookup.specs.DeleteFiles.{file_at}
use Rattle.soundness_deletes.specs.Deletes.{positions_ascend}
use Rattle.soundness_deletes.proofs.DeleteFiles.{succeeded_not, succeeded_is}
use Rattle.soundness_deletes.proofs.deletes.Comparable.succeeded.Goals as goal

pub returns-then-lt : goal.returns-then-lt
unfolding field
returns-then-lt c =
    sym (succeeded_not _ _ (ap (λ l. l.end.0) c.life_at-before.ensures) (ap (λ l. l.begin.0) c.life_at-after.ensures) (ltb-true _ _ (sym (c.lt.ensures ∙ is_less c.life_at-after.result.begin.0 c.life_at-before.result.end.0) ∙ c.if-lt.true)))

pub is_subset-requires : goal.is_subset-requires
is_subset-requires c =
    (ap (chained ltb) c.positions_of-earlier.ensures ∙ all-at (file_at c.args.self.files) positions_ascend _ _ c.args.self.ascend c.requires.0, ap (chained ltb) c.positions_of-later.ensures ∙ all-at (file_at c.args.self.files) positions_ascend _ _ c.args.self.ascend c.requires.1)

pub returns : goal.returns
unfolding field
returns c =
    c.is_subset.ensures
    ∙ sym (succeeded_is _ _ (ap (λ l. l.end.0) c.life_at-before.ensures) (ap (λ l. l.begin.0) c.life_at-after.ensures) (ltb-false _ _ (sym (c.lt.ensures ∙ is_less c.life_at-after.result.begin.0 c.life_at-before.result.end.0) ∙ c.if-lt.false)) c.positions_of-earlier.ensures c.positions_of-later.ensures)
