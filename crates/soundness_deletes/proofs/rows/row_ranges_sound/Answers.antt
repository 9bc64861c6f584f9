-- `row_ranges_sound` meets its contract: its two parts are those of the definition, over the runs that the words have.
use mathlib.Core.Path.{refl, sym, ◌∙◌}
use mathlib.Core.Bool.{and-true, and-false}
use Rattle.layout.specs.Words.{load}
use Rattle.ducklake.specs.Soundness.{row_ranges_sound}
use Rattle.soundness_deletes.proofs.rows.row_ranges_sound.Goals as goal

pub returns-then-not-in_tables : goal.returns-then-not-in_tables
unfolding load row_ranges_sound
returns-then-not-in_tables c w t f = rw (t, f) (sym (rw (sym (c.in_tables.ensures w.table_names) ∙ c.if-not-in_tables.true, and-false) refl))

pub returns : goal.returns
unfolding load row_ranges_sound
returns c w t f =
    rw (t, f) (c.ascend.ensures ∙ sym (rw (sym (c.in_tables.ensures w.table_names) ∙ c.if-not-in_tables.false, and-true) refl))
