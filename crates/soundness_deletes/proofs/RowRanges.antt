-- Row ranges. Where each of a table's files starts at or above the end of the one before, it starts above all earlier ones, so a pass that notes
-- where the rows of each table end compares enough.
use Rattle.std.specs.Prelude.{None, Option, Some}
use Prim.Native.Nat.{ℕ, ◌+◌, ◌≤◌, ◌<◌}
use mathlib.Core.Path.{◌≡◌, sym, ap, ◌∙◌}
use mathlib.Core.Bool.{Bool, true, false, not, ◌&&◌, ◌||◌}
use mathlib.Core.List.{List, []}
use native.Mathlib.Omega.{arith}
use borrow.Author.Tests.{leb-true, le-leb, lt-leb, eqb-true, eq-eqb}
use lib.Dec.{leb, eqb}
use lib.ListN.{length, get_or, set, replicate}
use mir.Syntax.{w64}
use mir.Val.{Fits}
use Rattle.lists.specs.Lists.{range, all, pairwise, has}
use Rattle.lists.specs.Runs.{at, field, fields}
use Rattle.lists.proofs.Members.{any_in, in_any, in_map, in_map_of}
use Rattle.lists.proofs.Memory.{remembered, remembered_start, remembered_pass, remembered_fail, remembered_end}
use Rattle.lists.proofs.Places as places
use Rattle.lists.proofs.Places.{any_nowhere, place_in, same_place, all-at, has_place, is_at, found_tells}
use Rattle.lists.proofs.Search.{any_found}
use Rattle.lists.proofs.Tests.{both, clash}
use Rattle.lists.proofs.Windows.{get_d_padded}
use Rattle.layout.specs.declared.outcome.Counts.{Counts}
use Rattle.layout.specs.declared.record.DataFileRecord.{DataFileRecord}
use Rattle.layout.specs.Catalog.{number_limit, record_count_limit, Versioned, Table, DataFile, data_file_of}
use Rattle.layout.specs.Fields.{table_size, table_id_word}
use Rattle.layout.specs.Records.{table_layout, data_file_layout}
use Rattle.layout.specs.Words.{table_at, tables_in, data_file_at, data_files_in}
use Rattle.ducklake.specs.Soundness.{is_record_count, data_file_in_range, row_id_end, rows_in_table, rows_before}
use Rattle.lookup.specs.Order.{TablesById, place_of}
use Rattle.soundness_deletes.specs.Rows.{RowRangesCheckable}

-- a file that was read is in its ranges, where all are
pub in_range_at : {tables files : List ℕ} {counts : Counts} {i : ℕ} {file : DataFileRecord} → RowRangesCheckable tables files counts → i < counts.data_files
    → file ≡ at data_file_layout files i → data_file_in_range (data_file_of file) ≡ true
in_range_at {files = files} {counts} {i} p h v = ap (λ r. data_file_in_range (data_file_of r)) v ∙ all-at (data_file_at files) data_file_in_range counts.data_files i p.in_range h

-- the rows of a file in its ranges end at a word
pub rows_fit : (file : DataFileRecord) → data_file_in_range (data_file_of file) ≡ true → Fits w64 (file.row_id_start.0 + file.record_count)
unfolding data_file_in_range is_record_count
rows_fit file e =
    let a = both (leb file.id.0 number_limit && leb file.table.0 number_limit && leb file.row_id_start.0 number_limit) (is_record_count file.record_count) e in
    let b = both (leb file.id.0 number_limit && leb file.table.0 number_limit) (leb file.row_id_start.0 number_limit) a.0 in
    omega (arith, leb-true file.row_id_start.0 number_limit b.1, leb-true file.record_count record_count_limit (both (leb 1 file.record_count) _ a.1).1)

-- a file's rows against the table that was found, and where none was
module _ (tables names : List ℕ) (n : ℕ) (f : Versioned DataFile) {r : Option ℕ} (h : r ≡ place_of table_size table_id_word tables n f.body.table) where
  pub rows_found : {e l j : ℕ} → TablesById tables n → r ≡ Some j → e ≡ row_id_end f → l ≡ (at table_layout tables j).next_row_id.0 → leb e l ≡ rows_in_table (tables_in tables names n) f
  unfolding field rows_in_table
  rows_found {e} t g a b = rw (a, b) (sym (any_found (table_at tables names) (λ v. v.id) f.body.table n (λ v. leb (row_id_end f) v.body.next_row_id) t.ascending h g))

  pub rows_nowhere : r ≡ None → rows_in_table (tables_in tables names n) f ≡ false
  unfolding field rows_in_table
  rows_nowhere g = any_nowhere (table_at tables names) (λ v. v.id) f.body.table n (λ v. leb (row_id_end f) v.body.next_row_id) h g

-- the test of a file that was read
pub rows_read : (ts : List (Versioned Table)) {f g : DataFileRecord} {b : Bool} → f ≡ g → b ≡ rows_in_table ts (data_file_of f) → b ≡ rows_in_table ts (data_file_of g)
rows_read ts e h = rw e at h

-- A pass over the files that notes for each table where its rows end so far. The key of a file is the place of its table.
module _ (files : List ℕ) where
  abbrev start_at : ℕ → ℕ
  start_at i = (data_file_at files i).body.row_id_start

  abbrev end_at : ℕ → ℕ
  end_at i = row_id_end (data_file_at files i)

  abbrev past : ℕ → ℕ → Bool
  past e i = leb e (start_at i)

  later : (m e i j : ℕ) → i < m → j < m → past e i ≡ true → past (end_at i) j ≡ true → past e j ≡ true
  later m e i j a b h g = le-leb e (start_at j) (omega (arith, leb-true e (start_at i) h, leb-true (end_at i) (start_at j) g))

-- what is left of the pass from the turn i on, with the ends in a
module _ (tables : List ℕ) (n : ℕ) (files : List ℕ) (m : ℕ) where
  abbrev key_at : ℕ → ℕ
  key_at i = place_in (fields table_size table_id_word tables n) (data_file_at files i).body.table

  pub ascend : List ℕ → ℕ → Bool
  ascend = remembered m key_at (end_at files) (past files) (later files m)

  pub ascend_end : (a : List ℕ) (i : ℕ) → m ≤ i → ascend a i ≡ true
  unfolding ascend
  ascend_end = remembered_end m key_at (end_at files) (past files) (later files m)

-- rows that lie in their tables have tables on record
module _ {tables files : List ℕ} {counts : Counts} (p : RowRangesCheckable tables files counts)
    (e : (names : List ℕ) → all (rows_in_table (tables_in tables names counts.tables)) (data_files_in files counts.data_files) ≡ true) where
  abbrev n : ℕ
  n = counts.tables

  abbrev m : ℕ
  m = counts.data_files

  table_there : (i : ℕ) → i < m → has (data_file_at files i).body.table (fields table_size table_id_word tables n) ≡ true
  unfolding field rows_in_table
  table_there i l =
      let x = (data_file_at files i).body.table in
      let t = any_in _ (tables_in tables [] n) (all-at (data_file_at files) (rows_in_table (tables_in tables [] n)) m i (e []) l) in
      let j = in_map_of (table_at tables []) (range 0 n) t.1 in
      in_any (eqb x) (in_map (field table_size table_id_word tables) j.1)
      (eq-eqb x (field table_size table_id_word tables j.0) (sym (ap (λ v. v.id) (sym j.2) ∙ eqb-true _ _ (both (eqb t.0.id x) _ t.2).0)))

  pub ascend_start : {ends : List ℕ} → ends ≡ replicate n 0 → pairwise rows_before (data_files_in files m) ≡ ascend tables n files m ends 0
  unfolding ascend rows_before
  ascend_start z = rw z
      (remembered_start m (key_at tables n files m) (end_at files) (past files) (later files m) rows_before (data_file_at files) (replicate n 0)
      (λ i j a b. ap (λ q. not q || past files (end_at files i) j) (same_place (field table_size table_id_word tables) n _ _ (table_there i a) (table_there j b)))
      (λ j. get_d_padded 0 [] n j) (λ j. le-leb 0 (start_at files j) (omega arith)))

  -- the turn i, with the file that was read and what the search for its table gave
  module _ {file : DataFileRecord} {r : Option ℕ} {i : ℕ} (l : i < m) (v : file ≡ at data_file_layout files i) (f : r ≡ place_of table_size table_id_word tables n file.table.0) where
    table_is : file.table.0 ≡ (data_file_at files i).body.table
    table_is = ap (λ w. w.table.0) v

    pub ascend_found : r ≡ None → ⊥
    ascend_found g = clash (sym (has_place (fields table_size table_id_word tables n) table_is f) ∙ table_there i l) (ap is_at g)

    module _ {j : ℕ} (g : r ≡ Some j) where
      -- its table has a place among the notes
      pub slot : j < n
      slot = (found_tells (field table_size table_id_word tables) _ n f g).0

      key-is : key_at tables n files m i ≡ j
      key-is = ap (place_in (fields table_size table_id_word tables n)) (sym table_is) ∙ ap places.place_of (sym f ∙ g)

      pub ascend_pass : (a : List ℕ) {e : ℕ} → j < length a → e ≡ row_id_end (data_file_of file) → get_or a j 0 ≤ file.row_id_start.0
          → ascend tables n files m a i ≡ ascend tables n files m (set a j e) (i + 1)
      unfolding ascend
      ascend_pass a b u w =
          rw (u, v, ← key-is) (remembered_pass m (key_at tables n files m) (end_at files) (past files) (later files m) a i l (omega (arith, key-is)) (rw key-is (le-leb _ _ (rw v at w))))

      pub ascend_fail : (a : List ℕ) → file.row_id_start.0 < get_or a j 0 → ascend tables n files m a i ≡ false
      unfolding ascend
      ascend_fail a w = remembered_fail m (key_at tables n files m) (end_at files) (past files) (later files m) a i l (rw key-is (lt-leb _ _ (rw v at w)))
