-- `schema_name_is_free` meets its contract: the chain tests each schema.
use Rattle.std.proofs.Common.{rules, sym, ap, ◌∙◌, Bool, not, ◌&&◌}
use Rattle.lists.specs.Lists.{any}
use Rattle.lists.proofs.Chains.{any_chain}
use Rattle.lists.proofs.Loops.{from_all}
use Rattle.lists.proofs.Selections.{any_both}
use Rattle.layout.specs.Catalog.{Versioned, Schema}
use Rattle.layout.specs.Names.{padded}
use Rattle.layout.specs.Words.{schema_at}
use Rattle.ducklake.specs.Arguments.{clashes}
use Rattle.ducklake.specs.Liveness.{live, schemas_at}
use Rattle.commits.proofs.name.schema_name_is_free.Goals as goal

pub returns : goal.returns
unfolding schemas_at
returns c =
    let a = c.args in
    let taken : Versioned Schema → Bool = λ v. clashes v.body.name (padded a.name.now) && live a.s.0 v in
    ap not (any_chain taken (schema_at a.schemas.now a.names.now) 0 a.n c.any.ensures.ran (λ i q k. search rules) (λ i q k. search rules)
    ∙ sym (ap (any taken) (from_all (schema_at a.schemas.now a.names.now) a.n)) ∙ sym (any_both _ _ _))
