-- `put_file_words` meets its contract: at every turn the words of the files at the places so far are in their keys.
use native.Mathlib.Omega.{arith}
use lib.ListN.{length-set}
use Rattle.sorting.proofs.Putting.{put_next}
use Rattle.soundness_unique.proofs.FileKeys.{place_of_file_lem, file_room}
use Rattle.soundness_unique.proofs.distinct.put_file_words.Goals as goal

pub file_word-requires : goal.file_word-requires
file_word-requires c = (c.requires.0, c.requires.1.inside, place_of_file_lem _ _ _ c.requires.1.present c.loop-p-test.true)

pub overflow_mul-keys : goal.overflow_mul-keys
overflow_mul-keys c = omega (arith, file_room _ _ c.requires.1 c.loop-p.invariant.0 c.loop-p-test.true)

pub overflow_add-keys : goal.overflow_add-keys
overflow_add-keys c = omega (arith, file_room _ _ c.requires.1 c.loop-p.invariant.0 c.loop-p-test.true, c.requires.1.within)

pub offset_bounds-keys-size : goal.offset_bounds-keys-size
offset_bounds-keys-size c = omega (arith, file_room _ _ c.requires.1 c.loop-p.invariant.0 c.loop-p-test.true, c.requires.1.within)

pub bounds-keys-size : goal.bounds-keys-size
bounds-keys-size c = omega (arith, file_room _ _ c.requires.1 c.loop-p.invariant.0 c.loop-p-test.true, c.requires.1.within)

pub loop-p-preserved : goal.loop-p-preserved
loop-p-preserved c =
    let v = c.loop-p.invariant in
    let t = c.loop-p-test.true in
    (rw length-set v.0, put_next _ _ _ _ _ _ _ c.requires.1.within t (file_room _ _ c.requires.1 v.0 t) c.file_word.ensures v.1)
