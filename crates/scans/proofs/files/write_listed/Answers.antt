-- Two words, one after the other.
use mathlib.Core.Path.{ap}
use native.Mathlib.Omega.{arith}
use lib.ListN.{length-set}
use Rattle.scans.proofs.FileLists.{two_words}
use Rattle.scans.proofs.files.write_listed.Goals as goal

pub bounds-area-k-2 : goal.bounds-area-k-2
bounds-area-k-2 c = simp length-set (omega arith)

pub returns : goal.returns
returns c =
    let a = c.args in
    two_words a.area.now a.k (omega arith) (ap (λ f. f.0) c.data_file_id-id.ensures) c.delete_id-deletion.ensures
