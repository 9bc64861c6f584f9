-- The loop lays the two words of each file that is read behind those of the files before it.
use Rattle.scans.proofs.FileLists.{Listing}
use Rattle.scans.proofs.files.list_files.Given as goal

abbrev pub invariant-loop-i : goal.invariant-loop-i
invariant-loop-i l =
    Listing l.data_files l.delete_files l.statistics l.n l.m l.q l.table.0 l.s.0 l.filter l.initial.area l.area l.k l.i
