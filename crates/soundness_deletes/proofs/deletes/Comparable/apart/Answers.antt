-- `apart` meets its contract: the three ways in which two delete files are apart, in the definition's order.
use mathlib.Core.Path.{sym, ap, ◌∙◌}
use borrow.Author.Tests.{eqb-true, eqb-false, not-true, not-false}
use Rattle.soundness_deletes.proofs.DeleteFiles.{apart_other, apart_forth, apart_back}
use Rattle.soundness_deletes.proofs.deletes.Comparable.apart.Goals as goal

pub returns-then-ne : goal.returns-then-ne
returns-then-ne c =
    sym (apart_other _ _ (ap (λ x. x.0) c.delete_file_data_file-a.ensures) (ap (λ x. x.0) c.delete_file_data_file-b.ensures) (eqb-false _ _ (not-true _ (sym c.ne.ensures ∙ c.if-ne.true))))

pub returns-then-succeeded : goal.returns-then-succeeded
returns-then-succeeded c =
    c.if-succeeded.true ∙ sym (apart_forth _ _ (ap (λ x. x.0) c.delete_file_data_file-a.ensures) (ap (λ x. x.0) c.delete_file_data_file-b.ensures) c.succeeded.ensures c.if-succeeded.true)

pub returns-else-succeeded : goal.returns-else-succeeded
returns-else-succeeded c =
    apart_back _ _ (ap (λ x. x.0) c.delete_file_data_file-a.ensures) (ap (λ x. x.0) c.delete_file_data_file-b.ensures) c.succeeded.ensures (eqb-true _ _ (not-false _ (sym c.ne.ensures ∙ c.if-ne.false)))
    c.if-succeeded.false c.succeeded-else-succeeded.ensures
