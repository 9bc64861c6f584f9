-- `is_held` meets its contract: where ids ascend no other record has the id that was found.
use mathlib.Core.Path.{sym, ap, ◌∙◌}
use Rattle.lists.proofs.Runs.{record_fits}
use Rattle.lists.proofs.Places.{found_tells, any_nowhere}
use Rattle.lists.proofs.Search.{any_found}
use Rattle.ducklake.specs.Soundness.{contains}
use Rattle.lookup.specs.Versions.{version_at, with_life}
use Rattle.soundness_lives.proofs.nesting.is_held.Goals as goal

pub life_at-outer-requires : goal.life_at-outer-requires
life_at-outer-requires c =
    (record_fits _ (found_tells _ _ _ c.find_near-found.ensures c.in-Some.is).0 c.args.ids.lent, c.requires.1)

pub returns-in-Some : goal.returns-in-Some
unfolding contains
returns-in-Some c =
    let a = c.args in
    c.life_contains.ensures ∙ (ap (λ o. contains (with_life o) (with_life a.l)) c.life_at-outer.ensures
    ∙ sym (any_found (version_at a.ids.size a.ids.at a.life a.ids.words.now) (λ v. v.id) _ _ (λ v. contains v (with_life a.l)) c.requires.0.ascending c.find_near-found.ensures c.in-Some.is))

pub returns-in-None : goal.returns-in-None
returns-in-None c =
    let a = c.args in
    sym (any_nowhere (version_at a.ids.size a.ids.at a.life a.ids.words.now) (λ v. v.id) _ _ (λ v. contains v (with_life a.l)) c.find_near-found.ensures c.in-None.is)
