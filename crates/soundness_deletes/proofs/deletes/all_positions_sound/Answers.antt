-- `all_positions_sound` meets its contract: the loop reads each delete file with its positions and judges them.
use mathlib.Core.Path.{sym, ◌∙◌}
use Rattle.lists.proofs.Loops.{all_pass, all_fail, all_end}
use Rattle.soundness_deletes.proofs.DeleteFiles.{read_sound}
use Rattle.soundness_deletes.proofs.deletes.all_positions_sound.Goals as goal

pub returns-then-not-positions_sound : goal.returns-then-not-positions_sound
returns-then-not-positions_sound c =
    let e = read_sound _ c.at-d.ensures c.positions_of-own.ensures c.positions_sound.ensures in
    sym (c.loop-i.invariant ∙ all_fail _ _ _ _ c.loop-i-test.true (sym e ∙ c.if-not-positions_sound.true))

pub loop-i-preserved : goal.loop-i-preserved
loop-i-preserved c =
    let e = read_sound _ c.at-d.ensures c.positions_of-own.ensures c.positions_sound.ensures in
    c.loop-i.invariant ∙ all_pass _ _ _ _ c.loop-i-test.true (sym e ∙ c.if-not-positions_sound.false)

pub returns : goal.returns
returns c = sym (c.loop-i.invariant ∙ all_end _ _ _ _ c.loop-i-test.false)
