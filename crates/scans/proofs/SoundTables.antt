-- What sound tables give the readings of files.
use mathlib.Core.Path.{◌≡◌}
use mathlib.Core.Bool.{true}
use mathlib.Core.List.{List}
use Prim.Native.Nat.{ℕ}
use Rattle.layout.specs.declared.outcome.Counts.{Counts}
use Rattle.layout.specs.Words.{Words}
use Rattle.ducklake.specs.Soundness.{sound}
use Rattle.call_laws.proofs.Ready.{ready}
use Rattle.readings.proofs.Found.{data_files_by_id_lem, delete_files_by_id_lem, statistics_by_file_lem}
use Rattle.scans.specs.Readable.{FilesReadable}

pub files_readable : (w : Words) (c : Counts) {fs ds qs : List ℕ} → sound w c ≡ true → w.data_files ≡ fs → w.delete_files ≡ ds → w.statistics ≡ qs → FilesReadable fs ds qs c
files_readable w c h e f g =
    record {
      by_id = data_files_by_id_lem w c h e;
      few = (ready w c h).few.data_files;
      lent = (delete_files_by_id_lem w c h f).lent;
      by_file = statistics_by_file_lem w c h g;
    }
