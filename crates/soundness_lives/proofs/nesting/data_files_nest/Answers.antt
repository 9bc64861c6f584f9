-- `data_files_nest` meets its contract: the chain tests each data file.
use Rattle.std.proofs.Common.{rules}
use Rattle.lists.proofs.Chains.{all_chain, all_below}
use Rattle.layout.specs.Words.{tables_in, data_file_at}
use Rattle.ducklake.specs.Soundness.{data_file_nests}
use Rattle.soundness_lives.proofs.nesting.data_files_nest.Goals as goal

pub returns : goal.returns
returns c t =
    let a = c.args in
    all_below _ _ _
    (all_chain (data_file_nests (tables_in a.tables.now t a.n)) (data_file_at a.data_files.now) 0 a.m c.all.ensures.ran
    (λ i q k. search rules) (λ i q k. search rules))
