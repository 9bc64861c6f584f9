-- `statistics_sound` meets its contract: its two parts are those of the definition, over the runs that the words have.
use Rattle.std.proofs.Common.{refl}
use Rattle.layout.specs.Words.{load}
use Rattle.ducklake.specs.Soundness.{statistics_sound}
use Rattle.soundness_statistics.proofs.statistics.statistics_sound.Goals as goal

pub returns : goal.returns
unfolding load statistics_sound
returns c w k f x = rw (k, f, x, c.all_file_statistics_sound-a.ensures w.column_names, c.statistics_on_files-b.ensures) refl
