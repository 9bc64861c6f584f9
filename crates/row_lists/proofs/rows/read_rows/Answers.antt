-- The delete files are found and their positions located before the rows are counted, and these are counted before any is written.
use Prim.Native.Nat.{ℕ}
use mathlib.Core.Path.{◌≡◌}
use mathlib.Core.List.{[]}
use native.Mathlib.Omega.{arith}
use lib.ListN.{get_or, replicate, length-replicate}
use Rattle.lists.proofs.Windows.{get_d_padded}
use Rattle.layout.specs.Words.{table_limit}
use Rattle.readings.proofs.AnswerAreas.{answered_short, answered_whole}
use Rattle.row_lists.proofs.RowLists.{rows_located}
use Rattle.row_lists.proofs.rows.read_rows.Goals as goal

pub find_live_delete_files-requires : goal.find_live_delete_files-requires
find_live_delete_files-requires c =
    let p = c.requires in
    record { by_id = p.by_id; lent = p.held.lent; room = omega (arith, p.few, length-replicate {A = ℕ} table_limit 0); zeros = zeros }
  where
    zeros : (k : ℕ) → ◌≡◌ {A = ℕ} (get_or (replicate table_limit 0) k 0) 0
    zeros k = get_d_padded 0 [] table_limit k

pub count_rows-length-requires : goal.count_rows-length-requires
count_rows-length-requires c =
    rows_located _ c.requires c.find_live_delete_files.ensures c.located-deletes.ensures

pub returns-then-area-length : goal.returns-then-area-length
returns-then-area-length c =
    let e = c.located-deletes.ensures in
    rw (← e.0, ← e.1, ← e.2) (answered_short _ _ c.count_rows-length.ensures c.if-area-length.true)

pub write_rows-requires : goal.write_rows-requires
write_rows-requires c =
    record {
      rows_located = rows_located _ c.requires c.find_live_delete_files.ensures c.located-deletes.ensures;
      table_in_bounds = omega (arith, c.count_rows-length.ensures, c.if-area-length.false);
    }

pub returns : goal.returns
returns c =
    let e = c.located-deletes.ensures in
    rw (← e.0, ← e.1, ← e.2) (answered_whole _ _ c.count_rows-length.ensures c.if-area-length.false c.write_rows.ensures)
