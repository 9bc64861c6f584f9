-- `is_live_id` meets its contract: where ids ascend no other record has the id that was found.
use mathlib.Core.Path.{sym, ap, ◌∙◌}
use Rattle.lists.proofs.Runs.{record_fits}
use Rattle.lists.proofs.Places.{found_tells, any_nowhere}
use Rattle.lists.proofs.Search.{any_found}
use Rattle.ducklake.specs.Liveness.{live, is_live}
use Rattle.lookup.specs.Versions.{version_at, with_life}
use Rattle.lookup.proofs.live.is_live_id.Goals as goal

pub life_at-l-requires : goal.life_at-l-requires
life_at-l-requires c =
    (record_fits _ (found_tells _ _ _ c.find.ensures c.in-Some.is).0 c.args.ids.lent, c.requires.1)

pub returns-in-Some : goal.returns-in-Some
unfolding is_live live
returns-in-Some c =
    let a = c.args in
    c.is_live.ensures ∙ (ap (λ l. live a.s.0 (with_life l)) c.life_at-l.ensures
    ∙ sym (any_found (version_at a.ids.size a.ids.at a.life a.ids.words.now) (λ v. v.id) _ _ (live a.s.0) c.requires.0 c.find.ensures c.in-Some.is))

pub returns-in-None : goal.returns-in-None
unfolding is_live
returns-in-None c =
    let a = c.args in
    sym (any_nowhere (version_at a.ids.size a.ids.at a.life a.ids.words.now) (λ v. v.id) _ _ (live a.s.0) c.find.ensures c.in-None.is)
