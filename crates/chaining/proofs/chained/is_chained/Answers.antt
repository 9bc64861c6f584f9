-- `is_chained` meets its contract: no flag is set before the loop that sets those of the data files that have an open delete file.
use Prim.Native.Nat.{ℕ}
use mathlib.Core.Path.{sym, ◌∙◌}
use mathlib.Core.Bool.{Bool}
use Rattle.layout.specs.Words.{table_limit, data_file_at, delete_files_in}
use Rattle.chaining.specs.Chained.{has_open_deletes}
use Rattle.chaining.proofs.Marks.{unmarked, chained_words}
use Rattle.chaining.proofs.chained.is_chained.Goals as goal

pub returns : goal.returns
returns c w e f =
    let a = c.args in
    let q : ℕ → Bool = has_open_deletes (delete_files_in a.delete_files.now w.positions a.counts.delete_files) in
    c.all_covered.ensures w.positions q (unmarked table_limit _ (λ j. q (data_file_at a.data_files.now j).id) c.requires.few (c.mark_data_files.ensures w.positions))
    ∙ sym (chained_words w a.counts e f)
