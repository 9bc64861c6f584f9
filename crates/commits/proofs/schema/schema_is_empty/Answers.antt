-- `schema_is_empty` meets its contract: the loop goes on while no table is live in the schema.
use mathlib.Core.Path.{sym, ap, ◌∙◌}
use mathlib.Core.Bool.{not}
use Rattle.lists.proofs.Loops.{all_start, all_pass, all_fail, all_end}
use Rattle.ducklake.specs.Liveness.{tables_at}
use Rattle.commits.proofs.Lives.{none_live}
use Rattle.commits.proofs.schema.schema_is_empty.Goals as goal

pub loop-i-init : goal.loop-i-init
unfolding tables_at
loop-i-init c = λ names. none_live _ _ _ ∙ all_start _ _ _

pub returns-then-held : goal.returns-then-held
returns-then-held c names =
    sym (c.loop-i.invariant names ∙ all_fail _ _ _ _ c.loop-i-test.true (ap not (sym (c.table_is_in-held.ensures names) ∙ c.if-held.true)))

pub loop-i-preserved : goal.loop-i-preserved
loop-i-preserved c =
    λ names. c.loop-i.invariant names ∙ all_pass _ _ _ _ c.loop-i-test.true (ap not (sym (c.table_is_in-held.ensures names) ∙ c.if-held.false))

pub returns : goal.returns
returns c names = sym (c.loop-i.invariant names ∙ all_end _ _ _ _ c.loop-i-test.false)
