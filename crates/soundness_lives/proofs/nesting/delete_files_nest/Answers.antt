-- `delete_files_nest` meets its contract: the chain tests each delete file.
use Rattle.std.proofs.Common.{rules}
use Rattle.lists.proofs.Chains.{all_chain, all_below}
use Rattle.layout.specs.Words.{data_files_in, delete_file_at}
use Rattle.ducklake.specs.Soundness.{delete_file_nests}
use Rattle.soundness_lives.proofs.nesting.delete_files_nest.Goals as goal

pub returns : goal.returns
returns c p =
    let a = c.args in
    all_below _ _ _
    (all_chain (delete_file_nests (data_files_in a.data_files.now a.n)) (delete_file_at a.delete_files.now p) 0 a.m c.all.ensures.ran
    (λ i q k. search rules) (λ i q k. search rules))
