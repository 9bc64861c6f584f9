-- `file_keys_differ` meets its contract: files of one key share a hash, so those left decide.
use mathlib.Core.Path.{refl, sym, ap₂, ◌∙◌}
use native.Mathlib.Omega.{arith}
use lib.ListN.{length-take}
use Rattle.sorting.specs.Keys.{same_words}
use Rattle.soundness_unique.specs.Files.{file_key}
use Rattle.soundness_unique.proofs.FileKeys.{as_map}
use Rattle.soundness_unique.proofs.LeftPlaces.{left_kept, left_keyed, left_within, left_differ}
use Rattle.soundness_unique.proofs.distinct.file_keys_differ.Goals as goal

pub left_places-r-requires : goal.left_places-r-requires
left_places-r-requires c = (c.requires.4 ∙ sym c.requires.3, c.requires.5)

pub put_file_keys-requires : goal.put_file_keys-requires
put_file_keys-requires c =
    let left = left_kept _ c.requires.3 refl (as_map _ _ c.requires.4) c.left_places-r.ensures.2 in
    (c.requires.0, record { inside = c.requires.1; present = left_within _ left; room = c.requires.2 })

pub places_differ-requires : goal.places_differ-requires
places_differ-requires c =
    let left = left_kept _ c.requires.3 refl (as_map _ _ c.requires.4) c.left_places-r.ensures.2 in
    let t = c.left_places-r in
    record {
      keyed = left_keyed _ left _ _ (omega (arith, c.requires.2, c.put_file_keys.ensures.0));
      scratch = simp length-take (omega (arith, c.requires.3, c.requires.4, t.auto.hashes, t.ensures.0));
    }

pub returns : goal.returns
returns c hash e tells =
    let a = c.args in
    let k = c.put_file_keys.ensures.1 in
    left_differ _ (left_kept hash c.requires.3 refl e c.left_places-r.ensures.2) same_words (file_key a.files.data_files.now a.files.delete_files.now a.files.scheduled.now a.files.counts a.words a.size) a.size _ tells
    (λ i j x y. ap₂ same_words (k.put i x) (k.put j y)) c.places_differ.ensures
