-- `places_differ` meets its contract: in order, equal keys follow each other.
use Rattle.std.proofs.Common.{rules, arith}
use Rattle.sorting.proofs.KeyOrder.{keyed_in}
use Rattle.sorting.proofs.Deciding.{keys_decided}
use Rattle.sorting.proofs.distinct.places_differ.Goals as goal

pub places_apart-requires : goal.places_apart-requires
places_apart-requires c = (c.requires, omega arith, λ i j a b. search (keyed_in _ _ c.requires.keyed a, keyed_in _ _ c.requires.keyed b, arith, rules))

pub returns : goal.returns
returns c = c.places_apart.ensures _ (λ i j r a b e. search (e, rules)) (keys_decided c.args.keys c.args.w.now)
