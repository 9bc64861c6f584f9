-- `columns_nest` meets its contract: the chain tests each column.
use Rattle.std.proofs.Common.{rules}
use Rattle.lists.proofs.Chains.{all_chain, all_below}
use Rattle.layout.specs.Words.{tables_in, column_at}
use Rattle.ducklake.specs.Soundness.{column_nests}
use Rattle.soundness_lives.proofs.nesting.columns_nest.Goals as goal

pub returns : goal.returns
returns c t cs =
    let a = c.args in
    all_below _ _ _
    (all_chain (column_nests (tables_in a.tables.now t a.n)) (column_at a.columns.now cs) 0 a.m c.all.ensures.ran (λ i q k. search rules) (λ i q k. search rules))
