-- `deletes_add_up` meets its contract: delete files are looked at where positions add up.
use mathlib.Core.Path.{◌≡◌, sym, ◌∙◌}
use Rattle.layout.specs.Lent.{words_lent}
use Rattle.ducklake.specs.Soundness.{positions_add_up}
use Rattle.soundness.proofs.Scratches.{deletes_scratch}
use Rattle.soundness.proofs.TestPremises.{delete_files_lent_lem, deletes_checkable}
use Rattle.soundness.proofs.relations.deletes_add_up.Goals as goal

pub positions_add_up-summed-requires : goal.positions_add_up-summed-requires
positions_add_up-summed-requires c = delete_files_lent_lem _ _ c.requires.0.room

pub deletes_sound-requires : goal.deletes_sound-requires
deletes_sound-requires c =
    let summed : c.positions_add_up-summed.result ≡ positions_add_up (words_lent c.args.lent) c.args.counts = c.positions_add_up-summed.ensures in
    let r = c.requires.0 in
    let d = deletes_scratch c.requires.1 in
    (deletes_checkable _ _ r.room r.ascend r.lives (sym summed ∙ c.if-not-summed.false), d.0, d.1, d.2, d.3)
