-- `all_file_statistics_sound` meets its contract: the loop reads and judges one data file after the other.
use Rattle.std.proofs.Common.{sym, ◌∙◌}
use Rattle.lists.proofs.Loops.{all_pass, all_fail, all_end}
use Rattle.soundness_statistics.proofs.FileStatistics.{file_read}
use Rattle.soundness_statistics.proofs.statistics.all_file_statistics_sound.Goals as goal

pub returns-then-not-ok : goal.returns-then-not-ok
returns-then-not-ok c names =
    sym (c.loop-i.invariant names
    ∙ all_fail _ _ _ _ c.loop-i-test.true (file_read _ _ c.data_file_at-file.ensures (c.file_statistics_sound-ok.ensures names) c.if-not-ok.true))

pub loop-i-preserved : goal.loop-i-preserved
loop-i-preserved c names =
    c.loop-i.invariant names ∙ all_pass _ _ _ _ c.loop-i-test.true (file_read _ _ c.data_file_at-file.ensures (c.file_statistics_sound-ok.ensures names) c.if-not-ok.false)

pub returns : goal.returns
returns c names = sym (c.loop-i.invariant names ∙ all_end _ _ _ _ c.loop-i-test.false)
