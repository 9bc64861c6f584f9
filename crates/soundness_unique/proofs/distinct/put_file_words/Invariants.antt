-- `put_file_words` meets its contract: at every turn the words of the files at the places so far are in their keys.
use mathlib.Core.Path.{◌≡◌}
use lib.ListN.{length, take}
use Rattle.sorting.specs.Keys.{Put}
use Rattle.soundness_unique.specs.Files.{file_word}
use Rattle.soundness_unique.proofs.distinct.put_file_words.Given as goal

abbrev pub invariant-loop-p : goal.invariant-loop-p
invariant-loop-p l =
    (length l.keys ≡ length l.initial.keys) × Put (file_word l.files.data_files.now l.files.delete_files.now l.files.scheduled.now l.files.counts l.words) l.size l.at (take l.p-index l.places) l.initial.keys l.keys
