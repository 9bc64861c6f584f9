-- From the last delete file to the first: what has been found is the first one, for each data file, of those passed.
use Rattle.scans.proofs.LiveDeletes.{FoundFrom}
use Rattle.scans.proofs.deletions.find_live_delete_files.Given as goal

abbrev pub invariant-loop-j : goal.invariant-loop-j
invariant-loop-j l = FoundFrom l.data_files l.n l.delete_files l.m l.s.0 l.places l.j
