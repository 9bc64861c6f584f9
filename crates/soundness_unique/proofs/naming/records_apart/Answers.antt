-- `records_apart` meets its contract: in the order of keys, those that follow each other decide.
use borrow.Author.Rules.{rules}
use native.Mathlib.Omega.{arith}
use Rattle.sorting.proofs.KeyOrder.{keyed_in}
use Rattle.soundness_unique.proofs.LifeOrder.{lives_decided}
use Rattle.soundness_unique.proofs.naming.records_apart.Goals as goal

pub places_apart-requires : goal.places_apart-requires
places_apart-requires c =
    let p = c.requires in
    (record { keyed = p.0; scratch = p.4 }, omega arith, λ i j a b. search (keyed_in _ _ p.0 a, keyed_in _ _ p.0 b, keyed_in _ _ p.1 a, keyed_in _ _ p.1 b, p.3, arith, rules))

pub returns : goal.returns
returns c n h m =
    let a = c.args in
    c.places_apart.ensures _ (λ i j r x y e. search (e, rules)) (lives_decided a.used a.keys a.records.size a.records.begin a.records.table.now h a.w.now m)
