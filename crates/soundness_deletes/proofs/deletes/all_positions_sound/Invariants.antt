-- `all_positions_sound` meets its contract: the loop reads each delete file with its positions and judges them.
use mathlib.Core.Path.{◌≡◌}
use Rattle.lists.specs.Lists.{all}
use Rattle.lists.specs.Runs.{from}
use Rattle.layout.specs.Words.{data_files_in}
use Rattle.ducklake.specs.Soundness.{positions_sound}
use Rattle.lookup.specs.DeleteFiles.{file_at, files_of}
use Rattle.soundness_deletes.proofs.deletes.all_positions_sound.Given as goal

abbrev pub invariant-loop-i : goal.invariant-loop-i
invariant-loop-i l =
    all (positions_sound (data_files_in l.data_files l.n)) (files_of l.deletes) ≡ all (positions_sound (data_files_in l.data_files l.n)) (from (file_at l.deletes) l.i l.deletes.n)
