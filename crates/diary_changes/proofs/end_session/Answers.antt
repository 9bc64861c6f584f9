-- `end_session` meets its contract: each call is made on what the one before left.
use borrow.Author.Rules.{rules}
use mathlib.Core.Path.{◌∙◌}
use Rattle.ducklake.specs.Calls.{perform}
use Rattle.diary_session.specs.Session.{insert_two, delete_one, delete_zero, ended}
use Rattle.diary_session.proofs.Chains.{promise_on}
use Rattle.diary_changes.proofs.end_session.Goals as goal

pub returns : goal.returns
unfolding ended
returns c =
    promise_on (perform delete_zero)
    (promise_on (perform delete_one) c.catalog_insert-two.ensures c.catalog_delete-one.ensures)
    c.catalog_delete.ensures
