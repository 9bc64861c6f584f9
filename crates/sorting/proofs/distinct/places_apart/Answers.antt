-- `places_apart` meets its contract: the places left decide, and of these in order those that follow each other.
use Rattle.std.proofs.Common.{◌∙◌}
use Rattle.sorting.proofs.Deciding.{left_in, decided}
use Rattle.sorting.proofs.distinct.places_apart.Goals as goal

pub neighbours_apart-requires : goal.neighbours_apart-requires
neighbours_apart-requires g c i j a b =
    let t = c.thin-r.ensures.2 in
    let s = c.sort.ensures.1 in
    c.requires.2 i j (left_in t s a) (left_in t s b)

pub returns : goal.returns
returns g c q e d =
    let t = c.thin-r.ensures.2 in
    let s = c.sort.ensures.1 in
    c.neighbours_apart.ensures q (λ i j r a b. e i j r (left_in t s a) (left_in t s b)) ∙ decided d t s c.sort.ensures.2
