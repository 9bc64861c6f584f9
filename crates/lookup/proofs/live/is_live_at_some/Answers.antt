-- `is_live_at_some` meets its contract: a snapshot is told by its id.
use mathlib.Core.Path.{sym, ◌∙◌}
use Rattle.lookup.specs.Versions.{with_life}
use Rattle.lookup.proofs.Liveness.{live_ids}
use Rattle.lookup.proofs.live.is_live_at_some.Goals as goal

pub returns : goal.returns
returns c = let a = c.args in c.is_live_among_near.ensures ∙ sym (live_ids (with_life a.l) a.snapshots.now _)
