-- `count_files_removed` meets its contract: with a list that fits, the files that are live at none of the ids that remain are counted.
use mathlib.Core.Path.{sym, ◌∙◌}
use borrow.Author.Rules.{rules}
use native.Mathlib.Omega.{arith}
use Rattle.expiry.proofs.Refused.{places_most, files_removed_lem}
use Rattle.expiry.proofs.Expirable.{list_ascends}
use Rattle.expiry.proofs.refuse.count_files_removed.Goals as goal

pub unlisted-left-requires : goal.unlisted-left-requires
unlisted-left-requires c =
    let p = c.requires in
    (record { by_id = p.snapshots; few = p.few_snapshots; ascending = list_ascends _ (sym c.list_fits-fits.ensures ∙ c.if-not-fits.false) }, search rules)

pub overflow_add-result : goal.overflow_add-result
overflow_add-result c =
    let p = c.requires in
    omega (arith, places_most _ _ c.count_removed.ensures, places_most _ _ c.count_removed-2.ensures, p.few_data_files, p.few_delete_files)

pub returns : goal.returns
returns c h w p q r =
    files_removed_lem w _ _ p q r c.unlisted-left.ensures c.count_removed.ensures c.count_removed-2.ensures
