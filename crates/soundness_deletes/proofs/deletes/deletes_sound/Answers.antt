-- `deletes_sound` meets its contract: its two parts are those of the definition, over the runs that the words have.
use mathlib.Core.Path.{refl, sym, ◌∙◌}
use mathlib.Core.Bool.{and-true, and-false}
use Rattle.layout.specs.Words.{load}
use Rattle.ducklake.specs.Soundness.{deletes_sound}
use Rattle.soundness_deletes.proofs.DeleteFiles.{sound_ascend}
use Rattle.soundness_deletes.proofs.deletes.deletes_sound.Goals as goal

pub returns-then-not-all_positions_sound : goal.returns-then-not-all_positions_sound
unfolding load deletes_sound
returns-then-not-all_positions_sound c w f d x =
    let e = c.located-files.ensures in
    rw (f, d, x, ← e.0, ← e.1, ← e.2) (sym (rw (sym c.all_positions_sound.ensures ∙ c.if-not-all_positions_sound.true, and-false) refl))

pub invariant_of-all_apart : goal.invariant_of-all_apart
invariant_of-all_apart c =
    let e = c.located-files.ensures in
    record { ascend = sound_ascend _ _ _ _ _ (sym c.all_positions_sound.ensures ∙ c.if-not-all_positions_sound.false); lives = rw (e.0, e.1, e.2) c.requires.0.lives }

pub returns : goal.returns
unfolding load deletes_sound
returns c w f d x =
    let e = c.located-files.ensures in
    rw (f, d, x, ← e.0, ← e.1, ← e.2) (c.all_apart.ensures ∙ sym (rw (sym c.all_positions_sound.ensures ∙ c.if-not-all_positions_sound.false, and-true) refl))
