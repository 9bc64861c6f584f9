-- `column_nests` meets its contract: where table ids ascend no other table has the id that was found.
use borrow.Author.Rules.{rules}
use mathlib.Core.Path.{sym, ap, ◌∙◌}
use Rattle.lists.proofs.Runs.{record_fits}
use Rattle.lists.proofs.Places.{found_tells, any_nowhere}
use Rattle.lists.proofs.Search.{any_found}
use Rattle.layout.specs.Fields.{table_size, table_id_word, table_begin_word}
use Rattle.ducklake.specs.Soundness.{same_life}
use Rattle.lookup.specs.Versions.{version_at, with_life}
use Rattle.soundness_lives.proofs.Held.{column_held}
use Rattle.soundness_lives.proofs.nesting.column_nests.Goals as goal

pub life_at-outer-requires : goal.life_at-outer-requires
life_at-outer-requires c =
    let p = c.requires in
    (record_fits table_size (found_tells _ _ _ c.find_table_near-found.ensures c.in-Some.is).0 p.0.lent, search rules)

pub returns-in-Some : goal.returns-in-Some
unfolding same_life
returns-in-Some c t cs =
    let l = c.life_at-l.result in
    column_held _ t _ cs _ _ c.column_table-table.ensures c.life_at-l.ensures
    (c.eq.ensures ∙ (ap (λ o. same_life (with_life o) (with_life l)) c.life_at-outer.ensures
    ∙ sym (any_found (version_at table_size table_id_word table_begin_word c.args.tables.now) (λ v. v.id) _ _ (λ v. same_life v (with_life l)) c.requires.0.ascending c.find_table_near-found.ensures c.in-Some.is)))

pub returns-in-None : goal.returns-in-None
returns-in-None c t cs =
    let l = c.life_at-l.result in
    column_held _ t _ cs _ _ c.column_table-table.ensures c.life_at-l.ensures
    (sym (any_nowhere (version_at table_size table_id_word table_begin_word c.args.tables.now) (λ v. v.id) _ _ (λ v. same_life v (with_life l)) c.find_table_near-found.ensures c.in-None.is))
