-- `more_fit` meets its contract: what is added has to have room by itself.
use Rattle.refusals.proofs.Laws.{sum_past, sum_within}
use Rattle.refusals.proofs.room.more_fit.Goals as goal

pub returns-then-room-added : goal.returns-then-room-added
returns-then-room-added c = let a = c.args in sum_past a.used a.added a.room c.if-room-added.true

pub returns : goal.returns
returns c = let a = c.args in sum_within a.used a.added a.room c.if-room-added.false
