-- `delete_file_nests` meets its contract: where file ids ascend no other data file has the id that was found.
use borrow.Author.Rules.{rules}
use Prim.Native.Nat.{◌+◌, ◌*◌, ◌≤◌}
use mathlib.Core.Path.{sym, ap, ap₂, ◌∙◌}
use mathlib.Core.Bool.{◌&&◌}
use lib.Dec.{eqb}
use lib.ListN.{length}
use Rattle.lists.specs.Runs.{field}
use Rattle.lists.proofs.Runs.{record_fits}
use Rattle.lists.proofs.Places.{found_tells, any_nowhere}
use Rattle.lists.proofs.Search.{any_found}
use Rattle.layout.specs.Fields.{data_file_size}
use Rattle.layout.specs.Words.{data_file_at}
use Rattle.ducklake.specs.Soundness.{contains}
use Rattle.lookup.specs.Versions.{with_life}
use Rattle.soundness_lives.proofs.Held.{delete_file_held}
use Rattle.soundness_lives.proofs.nesting.delete_file_nests.Goals as goal

pub data_file_table-of_file-requires : goal.data_file_table-of_file-requires
-- the place found lies in the run
data_file_table-of_file-requires c =
    let found_fits : data_file_size * c.in-Some.j + data_file_size ≤ length c.args.data_files.now =
    record_fits data_file_size (found_tells _ _ _ c.find_data_file_near-found.ensures c.in-Some.is).0 c.requires.0.lent in
    found_fits

pub life_at-outer-requires : goal.life_at-outer-requires
life_at-outer-requires c =
    let found_fits : data_file_size * c.in-Some.j + data_file_size ≤ length c.args.data_files.now =
    record_fits data_file_size (found_tells _ _ _ c.find_data_file_near-found.ensures c.in-Some.is).0 c.requires.0.lent in
    (found_fits, search rules)

pub returns-in-Some : goal.returns-in-Some
unfolding field contains
returns-in-Some c p =
    let b = c.args in
    let l = c.life_at-l.result in
    let y = c.delete_file_table-table.result in
    delete_file_held b.data_files.now b.delete_files.now p _ b.i c.delete_file_data_file-file.ensures c.delete_file_table-table.ensures c.life_at-l.ensures
    (ap₂ ◌&&◌ (c.eq.ensures ∙ ap (λ x. eqb x.0 y.0) c.data_file_table-of_file.ensures) (c.life_contains-held.ensures ∙ ap (λ o. contains (with_life o) (with_life l)) c.life_at-outer.ensures)
    ∙ sym (any_found (data_file_at b.data_files.now) (λ v. v.id) _ _ (λ v. eqb v.body.table y.0 && contains v (with_life l)) c.requires.0.ascending c.find_data_file_near-found.ensures c.in-Some.is))

pub returns-in-None : goal.returns-in-None
unfolding field
returns-in-None c p =
    let b = c.args in
    let l = c.life_at-l.result in
    let y = c.delete_file_table-table.result in
    delete_file_held b.data_files.now b.delete_files.now p _ b.i c.delete_file_data_file-file.ensures c.delete_file_table-table.ensures c.life_at-l.ensures
    (sym (any_nowhere (data_file_at b.data_files.now) (λ v. v.id) _ _ (λ v. eqb v.body.table y.0 && contains v (with_life l)) c.find_data_file_near-found.ensures c.in-None.is))
