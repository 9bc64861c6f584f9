-- `keep_counted` meets its contract: each hash has its count, and the places stay whose hash is colliding.
use Rattle.std.proofs.Common.{ℕ}
use lib.ListN.{length-replicate}
use Rattle.sorting.proofs.Collisions.{hashes_below, counted_none, kept}
use Rattle.sorting.proofs.colliding.keep_counted.Goals as goal

pub count_hashes-requires : goal.count_hashes-requires
count_hashes-requires g c = (counted_none g.row.N, hashes_below g.row.N (length-replicate {A = ℕ} g.row.N 0) c.requires.1)

pub returns : goal.returns
returns g c =
    let e = c.keep.ensures in
    (e.0, e.1, λ hash h. kept hash _ h c.count_hashes.ensures.1 (e.2 hash h))
