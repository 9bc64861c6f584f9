-- `hash_file_ids` meets its contract: the hashes of each table stand behind those of the one before.
use borrow.Author.Rules.{rules}
use Rattle.soundness_unique.proofs.FileKeys.{ids_hashed}
use Rattle.soundness_unique.proofs.distinct.hash_file_ids.Goals as goal

pub returns : goal.returns
returns c =
    ids_hashed _ _ _ _ c.args.hashes.now c.requires.1 (search rules) c.hash_fields.ensures c.hash_fields-2.ensures c.hash_fields-3.ensures
