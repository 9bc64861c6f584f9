-- The filter is asked only of a file of the table that is live.
use mathlib.Core.Path.{sym, ap, ◌∙◌}
use Rattle.layout.specs.Words.{data_file_at, statistics_in}
use Rattle.scans.specs.Filters.{passes}
use Rattle.scans.proofs.FileLists.{not_read, is_read_lem}
use Rattle.scans.proofs.files.is_read.Goals as goal

pub returns-then-not-is_in_table : goal.returns-then-not-is_in_table
returns-then-not-is_in_table c =
    let a = c.args in
    not_read (passes a.filter (statistics_in a.statistics.now a.q) (data_file_at a.data_files.now a.i)) (sym c.is_in_table.ensures ∙ c.if-not-is_in_table.true)

pub returns : goal.returns
returns c =
    let a = c.args in
    is_read_lem (c.file_passes.ensures (data_file_at a.data_files.now a.i) (sym (ap (λ f. f.0) c.data_file_id-id.ensures)))
    (sym c.is_in_table.ensures ∙ c.if-not-is_in_table.false)
