-- `begin_session` meets its contract: each call is made on what the one before left, and the columns bear the two names.
use borrow.Author.Rules.{rules}
use mathlib.Core.Path.{◌∙◌}
use Rattle.ducklake.specs.Calls.{perform}
use Rattle.diary_session.specs.Session.{create_diary, insert_three, begun}
use Rattle.diary_session.proofs.Chains.{promise_on}
use Rattle.diary_start.proofs.ColumnNames.{promise_named}
use Rattle.diary_start.proofs.begin_session.Goals as goal

pub returns : goal.returns
unfolding begun
returns c =
    promise_on (perform insert_three)
    (promise_on (perform create_diary) c.catalog_fresh-fresh.ensures
    (promise_named _ _ _ c.write_name.ensures c.write_name-2.ensures c.catalog_create_table-created.ensures))
    c.catalog_insert.ensures
