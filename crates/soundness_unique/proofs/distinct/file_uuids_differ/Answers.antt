-- `file_uuids_differ` meets its contract: files that share a UUID share a hash, and a key is a UUID.
use mathlib.Core.Path.{refl, ◌∙◌}
use native.Mathlib.Omega.{arith}
use Rattle.soundness_unique.proofs.FileKeys.{uuids_tell, uuids_told}
use Rattle.soundness_unique.proofs.LeftPlaces.{all_hashed}
use Rattle.soundness_unique.proofs.distinct.file_uuids_differ.Goals as goal

pub file_keys_differ-requires : goal.file_keys_differ-requires
file_keys_differ-requires c =
    let s = c.requires.1 in (
      c.requires.0,
      record { in_data_file = omega arith; in_delete_file = omega arith; in_scheduled = omega arith },
      omega (arith, s.room),
      s.places,
      c.hash_file_uuids.auto.hashes ∙ s.scratch,
      (all_hashed _ s.places refl c.hash_file_uuids.ensures (λ i. omega arith)).1,
    )

pub returns : goal.returns
returns c positions =
    uuids_told _ _ _ positions _ (c.file_keys_differ.ensures _ c.hash_file_uuids.ensures (uuids_tell _ _ _ _))
