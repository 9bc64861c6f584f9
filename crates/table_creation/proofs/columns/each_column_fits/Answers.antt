-- `each_column_fits` meets its contract: the loop goes on while the columns are well formed.
use mathlib.Core.Path.{sym, ◌∙◌}
use native.Mathlib.Omega.{arith}
use Rattle.lists.proofs.Loops.{all_pass, all_fail, all_end}
use Rattle.table_creation.proofs.columns.each_column_fits.Goals as goal

pub returns-then-not-column_fits : goal.returns-then-not-column_fits
returns-then-not-column_fits c table =
    sym (c.loop-i.invariant table ∙ all_fail _ _ _ _ (omega arith) (sym (c.column_fits.ensures table) ∙ c.if-not-column_fits.true))

pub loop-i-preserved : goal.loop-i-preserved
loop-i-preserved c table =
    c.loop-i.invariant table ∙ all_pass _ _ _ _ (omega arith) (sym (c.column_fits.ensures table) ∙ c.if-not-column_fits.false)

pub returns : goal.returns
returns c table = sym (c.loop-i.invariant table ∙ all_end _ _ _ _ (omega arith))
