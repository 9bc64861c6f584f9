-- `put_file_keys` meets its contract: at every turn the first words of the keys are put.
use Prim.Native.Nat.{ℕ, ◌<◌}
use mathlib.Core.Path.{◌≡◌}
use lib.ListN.{length}
use Rattle.lists.specs.Runs.{field}
use Rattle.lists.proofs.Members.{In}
use Rattle.soundness_unique.specs.Files.{file_word, shifted}
use Rattle.soundness_unique.proofs.distinct.put_file_keys.Given as goal

abbrev pub invariant-loop-at : goal.invariant-loop-at
invariant-loop-at l =
    (length l.keys ≡ length l.initial.keys)
    × ((i k : ℕ) → In i l.places → k < l.at → field l.size k l.keys i ≡ file_word l.files.data_files.now l.files.delete_files.now l.files.scheduled.now l.files.counts (shifted l.words k) i)
