-- `start` keeps the promise: without room it leaves all as it was, else its writes are the fresh catalogue.
use Rattle.catalog_fresh.proofs.Lent.{fresh_relies, fresh_refused, fresh_done}
use Rattle.catalog_fresh.proofs.start.start.Goals as goal

pub returns-then-not-held : goal.returns-then-not-held
returns-then-not-held c l area =
    rw c.refused.ensures (fresh_refused l c.is_within-held.ensures _ _ area c.if-not-held.true)

pub write_fresh-requires : goal.write_fresh-requires
write_fresh-requires c =
    fresh_relies c.requires c.is_within-held.ensures c.if-not-held.false

pub returns : goal.returns
returns c l area =
    rw c.accepted.ensures (fresh_done l c.is_within-held.ensures _ _ area c.if-not-held.false c.write_fresh.ensures)
