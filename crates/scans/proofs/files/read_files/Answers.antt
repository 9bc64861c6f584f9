-- The length is twice the number of files, and the delete files are found before the list is laid.
use Prim.Native.Nat.{ℕ}
use mathlib.Core.Path.{◌≡◌}
use mathlib.Core.List.{[]}
use native.Mathlib.Omega.{arith}
use lib.ListN.{get_or, replicate, length-replicate}
use Rattle.lists.proofs.Windows.{get_d_padded}
use Rattle.layout.specs.Words.{table_limit}
use Rattle.readings.proofs.AnswerAreas.{answered_short, answered_whole}
use Rattle.scans.proofs.FileLists.{list_counted}
use Rattle.scans.proofs.files.read_files.Goals as goal

pub returns-then-area-length : goal.returns-then-area-length
returns-then-area-length c positions =
    let a = c.args in
    answered_short _ _ (list_counted a.data_files.now a.delete_files.now a.statistics.now a.counts.data_files a.counts.delete_files a.counts.statistics a.table.0 a.s.0 a.filter positions c.count_files-k.ensures.1) c.if-area-length.true

pub find_live_delete_files-requires : goal.find_live_delete_files-requires
find_live_delete_files-requires c =
    let p = c.requires in
    record { by_id = p.by_id; lent = p.lent; room = omega (arith, p.few, length-replicate {A = ℕ} table_limit 0); zeros = zeros }
  where
    zeros : (k : ℕ) → ◌≡◌ {A = ℕ} (get_or (replicate table_limit 0) k 0) 0
    zeros k = get_d_padded 0 [] table_limit k

pub list_files-requires : goal.list_files-requires
list_files-requires c =
    let p = c.requires in
    record {
      files_selectable = (record { lent = p.by_id.lent; by_file = p.by_file }, c.find_live_delete_files.ensures, p.lent);
      table_in_bounds = omega (arith, c.if-area-length.false, c.count_files-k.ensures.1);
    }

pub returns : goal.returns
returns c positions =
    let a = c.args in
    answered_whole _ _ (list_counted a.data_files.now a.delete_files.now a.statistics.now a.counts.data_files a.counts.delete_files a.counts.statistics a.table.0 a.s.0 a.filter positions c.count_files-k.ensures.1) c.if-area-length.false (c.list_files.ensures positions)
