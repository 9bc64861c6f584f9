-- The test is that of the definition: of a table the schema and the life are looked at.
use mathlib.Core.Path.{ap, ap₂, ◌∙◌}
use mathlib.Core.Bool.{Bool, ◌&&◌}
use lib.Dec.{eqb}
use Rattle.lists.specs.Runs.{field}
use Rattle.ducklake.specs.Liveness.{live}
use Rattle.lookup.specs.Versions.{with_life}
use Rattle.listings.proofs.tables.is_in_schema.Goals as goal

pub returns : goal.returns
unfolding field live
returns c names =
    let a = c.args in
    ap₂ ◌&&◌ (c.eq.ensures ∙ ap (λ k. eqb k.0 a.schema.0) c.table_schema-holder.ensures) (c.is_live-live.ensures ∙ ap (λ l. live a.s.0 (with_life l)) c.life_at-l.ensures)
