-- `compare` meets its contract: each test is made on tables whose records hold, in scratch that stays as long.
use mathlib.Core.Path.{◌∙◌}
use Rattle.soundness.proofs.Scratches.{files_scratch, names_scratch, rows_scratch, scratch_kept}
use Rattle.soundness.proofs.TestPremises.{files_lent, named, row_ranges_checkable}
use Rattle.soundness.proofs.relations.compare.Goals as goal

pub files_distinct-distinct-requires : goal.files_distinct-distinct-requires
files_distinct-distinct-requires c =
    (files_lent _ _ c.requires.0.room, files_scratch c.requires.1)

pub names_apart-apart-requires : goal.names_apart-apart-requires
names_apart-apart-requires c =
    let r = c.requires.0 in
    let k = c.files_distinct-distinct in
    (named _ _ r.room r.fields r.lives, names_scratch (scratch_kept c.requires.1 k.auto.keys k.auto.w k.auto.v))

pub row_ranges_sound-rows-requires : goal.row_ranges_sound-rows-requires
row_ranges_sound-rows-requires c =
    let r = c.requires.0 in (
      row_ranges_checkable _ _ r.room r.ascend r.fields,
      rows_scratch c.requires.1 (c.names_apart-apart.auto.keys ∙ c.files_distinct-distinct.auto.keys),
    )
