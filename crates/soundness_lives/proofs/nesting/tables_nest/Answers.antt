-- `tables_nest` meets its contract: the chain tests each table.
use Rattle.std.proofs.Common.{rules}
use Rattle.lists.proofs.Chains.{all_chain, all_below}
use Rattle.layout.specs.Words.{schemas_in, table_at}
use Rattle.ducklake.specs.Soundness.{table_nests}
use Rattle.soundness_lives.proofs.nesting.tables_nest.Goals as goal

pub returns : goal.returns
returns c s t =
    let a = c.args in
    all_below _ _ _
    (all_chain (table_nests (schemas_in a.schemas.now s a.n)) (table_at a.tables.now t) 0 a.m c.all.ensures.ran (λ i q k. search rules) (λ i q k. search rules))
