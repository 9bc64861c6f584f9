-- `ascend` meets its contract: each file is tested against the end noted for its table, which stands for all earlier files of it.
use mathlib.Core.Path.{◌≡◌}
use Rattle.lists.specs.Lists.{pairwise}
use Rattle.layout.specs.Words.{data_files_in}
use Rattle.ducklake.specs.Soundness.{rows_before}
use Rattle.soundness_deletes.proofs.RowRanges.{ascend}
use Rattle.soundness_deletes.proofs.rows.RowRanges.ascend.Given as goal

abbrev pub invariant-loop-i : goal.invariant-loop-i
invariant-loop-i l =
    pairwise rows_before (data_files_in l.self.data_files.now l.self.counts.data_files) ≡ ascend l.self.tables.now l.self.counts.tables l.self.data_files.now l.self.counts.data_files l.ends l.i
