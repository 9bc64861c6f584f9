-- `is_listed` meets its contract: a word of the list has a place in it.
use mathlib.Core.Path.{refl, sym, ap, ◌∙◌}
use lib.Dec.{ltb}
use lib.ListN.{length}
use Rattle.lists.specs.Lists.{chained, has}
use Rattle.lists.specs.Runs.{fields}
use Rattle.lists.proofs.Layouts.{fields_words}
use Rattle.lists.proofs.Places.{has_place}
use Rattle.expiry.specs.Remaining.{id_size}
use Rattle.expiry.proofs.Listed.{is_some_as}
use Rattle.expiry.proofs.list.is_listed.Goals as goal

pub find-requires : goal.find-requires
find-requires c = ap (chained ltb) (fields_words c.args.ids.now _ refl) ∙ c.requires

pub returns : goal.returns
returns c =
    let a = c.args in
    c.is_some.ensures ∙ is_some_as c.find.result
    ∙ sym (ap (has a.s.0) (sym (fields_words a.ids.now _ refl)) ∙ has_place (fields id_size 0 a.ids.now (length a.ids.now)) refl c.find.ensures)
