-- `statistics_on_files` meets its contract: the loop looks up the data file of each record, and it is there just where it has a place.
use Rattle.std.proofs.Common.{sym, ap, ◌∙◌}
use Rattle.lists.proofs.Loops.{all_pass, all_fail, all_end}
use Rattle.lists.proofs.Places.{is_at}
use Rattle.soundness_statistics.proofs.FileStatistics.{on_file_lem}
use Rattle.soundness_statistics.proofs.statistics.statistics_on_files.Goals as goal

pub returns-in_default : goal.returns-in_default
returns-in_default c =
    sym (c.loop-i.invariant
    ∙ all_fail _ _ _ _ c.loop-i-test.true (on_file_lem _ _ _ (ap (λ f. f.0) c.statistics_data_file-file.ensures) c.find_data_file_near-found.ensures ∙ ap is_at c.in_default.is))

pub loop-i-preserved : goal.loop-i-preserved
loop-i-preserved c =
    c.loop-i.invariant
    ∙ all_pass _ _ _ _ c.loop-i-test.true (on_file_lem _ _ _ (ap (λ f. f.0) c.statistics_data_file-file.ensures) c.find_data_file_near-found.ensures ∙ ap is_at c.in-Some.is)

pub returns : goal.returns
returns c = sym (c.loop-i.invariant ∙ all_end _ _ _ _ c.loop-i-test.false)
