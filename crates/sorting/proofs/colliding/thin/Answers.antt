-- `thin` meets its contract: of the places with their hashes those stay whose hash another has, and two places that agree have one hash.
use Rattle.std.proofs.Common.{length, ap, ◌∙◌}
use lib.ListN.{length-map}
use Rattle.sorting.proofs.Collisions.{hashes_under, thinned}
use Rattle.sorting.proofs.colliding.thin.Goals as goal

pub keep_colliding-requires : goal.keep_colliding-requires
keep_colliding-requires c =
    let a = c.args in
    let e = c.hash_places.ensures in
    (ap length e ∙ length-map a.w.now _, hashes_under a.round a.used a.keys.size a.keys.words.now a.w.now e)

pub returns : goal.returns
returns c =
    let e = c.keep_colliding.ensures in
    (e.0, e.1, thinned _ _ _ _ (e.2 _ c.hash_places.ensures))
