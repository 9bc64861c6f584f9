-- `is_live_at` meets its contract: of a record only the life is looked at.
use mathlib.Core.Path.{ap, ◌∙◌}
use Rattle.ducklake.specs.Liveness.{live}
use Rattle.lookup.specs.Versions.{with_life}
use Rattle.listings.proofs.lives.is_live_at.Goals as goal

pub returns : goal.returns
returns c = c.is_live.ensures ∙ ap (λ l. live c.args.s.0 (with_life l)) c.life_at-l.ensures
