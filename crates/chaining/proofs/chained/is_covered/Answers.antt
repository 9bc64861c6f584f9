-- `is_covered` meets its contract: ids ascend, so the data file that was found is the only one of its id, and its flag tells.
use borrow.Author.Rules.{rules}
use native.Mathlib.Omega.{arith}
use mathlib.Core.Path.{sym, ap, ap₂, ◌∙◌}
use mathlib.Core.Bool.{not, ◌||◌}
use lib.Dec.{eqb}
use Rattle.lists.specs.Runs.{field}
use Rattle.lists.proofs.Runs.{record_fits}
use Rattle.layout.specs.Fields.{data_file_size}
use Rattle.layout.specs.Catalog.{absent}
use Rattle.chaining.proofs.Marks.{found_id, open_found, open_nowhere}
use Rattle.chaining.proofs.chained.is_covered.Goals as goal

pub life_at-l-requires : goal.life_at-l-requires
life_at-l-requires c =
    (record_fits data_file_size (found_id _ _ _ c.find_data_file-found.ensures c.in-Some.is).0 c.requires.0.lent, search rules)

pub is_flagged-marked-requires : goal.is_flagged-marked-requires
is_flagged-marked-requires c =
    omega (arith, c.requires.1, (found_id _ _ _ c.find_data_file-found.ensures c.in-Some.is).0)

pub returns-in-Some : goal.returns-in-Some
unfolding field
returns-in-Some c q g =
    let a = c.args in
    let t = found_id a.data_files.now a.n a.id.0 c.find_data_file-found.ensures c.in-Some.is in
    ap₂ ◌||◌
    (c.ne.ensures ∙ ap not (ap (λ x. eqb x.end.0 absent) c.life_at-l.ensures
    ∙ sym (open_found a.data_files.now a.n a.id.0 c.find_data_file-found.ensures c.requires.0.ascending c.in-Some.is)))
    (c.is_flagged-marked.ensures ∙ (g.set _ t.0 ∙ ap q t.1))

pub returns-in-None : goal.returns-in-None
returns-in-None c q g =
    let a = c.args in
    sym (ap (λ x. not x || q a.id.0) (open_nowhere a.data_files.now a.n a.id.0 c.find_data_file-found.ensures c.in-None.is))
