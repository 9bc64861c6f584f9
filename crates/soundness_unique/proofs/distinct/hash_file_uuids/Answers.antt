-- `hash_file_uuids` meets its contract: the hashes of each table stand behind those of the one before.
use borrow.Author.Rules.{rules}
use Rattle.soundness_unique.proofs.FileKeys.{uuids_hashed}
use Rattle.soundness_unique.proofs.distinct.hash_file_uuids.Goals as goal

pub returns : goal.returns
returns c =
    uuids_hashed _ _ _ _ c.args.hashes.now c.requires.1 (search rules) c.hash_pairs.ensures c.hash_pairs-2.ensures c.hash_pairs-3.ensures
