-- `latest_by` meets its contract: the snapshots by t are those before the place found.
use native.Mathlib.Omega.{arith}
use Rattle.lookup.proofs.Times.{by_most, by_none, by_some, by_highest}
use Rattle.lookup.proofs.find.latest_by.Goals as goal

pub returns-then-k-eq0 : goal.returns-then-k-eq0
returns-then-k-eq0 c = by_none _ _ _ _ c.requires.1.never_falling c.count_through-k.ensures c.if-k-eq0.true

pub returns : goal.returns
returns c =
    let p = c.requires in
    let e = c.count_through-k.ensures in
    (omega (arith, by_most _ _ _ _ p.1.never_falling e), by_some _ _ _ _ p.1.never_falling e (omega arith), by_highest _ _ _ _ p.1.never_falling e (omega arith) p.0.ascending)
