-- `columns_counted` meets its contract: the columns of each table stand together, and the loop judges the length of their block.
use Rattle.std.proofs.Common.{sym, ap, ◌∙◌}
use Rattle.lists.proofs.Loops.{all_pass, all_fail, all_end}
use Rattle.soundness_statistics.proofs.ColumnCounts.{counted_is}
use Rattle.soundness_statistics.proofs.columns.columns_counted.Goals as goal

pub returns-then-not-k : goal.returns-then-not-k
returns-then-not-k c t k =
    sym (c.loop-i.invariant t k
    ∙ all_fail _ _ _ _ c.loop-i-test.true (sym (counted_is _ k _ _ (ap (λ r. r.0) c.table_id-table.ensures) c.columns_between-own.ensures) ∙ c.if-not-k.true))

pub loop-i-preserved : goal.loop-i-preserved
loop-i-preserved c t k =
    c.loop-i.invariant t k
    ∙ all_pass _ _ _ _ c.loop-i-test.true (sym (counted_is _ k _ _ (ap (λ r. r.0) c.table_id-table.ensures) c.columns_between-own.ensures) ∙ c.if-not-k.false)

pub returns : goal.returns
returns c t k = sym (c.loop-i.invariant t k ∙ all_end _ _ _ _ c.loop-i-test.false)
