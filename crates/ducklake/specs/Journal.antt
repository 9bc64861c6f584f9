-- The row journal, document 01's row book: "fed only each call's arguments and whether it was accepted".
use Rattle.std.specs.Prelude.{ℕ, suc, ◌+◌, Bool, true, false, not, cond, List, [], ◌++◌, map, eqb}
use Rattle.lists.specs.Lists.{range, filter, has}
use Rattle.ducklake.specs.Commits.{Commit, create_schema, create_table, insert, delete, drop_table, drop_schema}

-- a table on a page
pub record TableRows : Type 0 where
  pub present : Bool
  pub next_row : ℕ
  pub rows : List ℕ

abbrev pub no_table_rows : TableRows
no_table_rows = record { present = false; next_row = 0; rows = [] }

-- the pages so far, by snapshot and table; for each registered data file its table and first row
pub record Journal : Type 0 where
  pub latest : ℕ
  pub next_catalog_id : ℕ
  pub next_file_id : ℕ
  pub table_of_file : ℕ → ℕ
  pub first_row : ℕ → ℕ
  pub page : ℕ → ℕ → TableRows

-- f, but y at k
abbrev pub updated : {A : Type 0} → ℕ → A → (ℕ → A) → ℕ → A
updated k y f j = cond (eqb j k) y (f j)

abbrev pub last_page : Journal → ℕ → TableRows
last_page J = J.page J.latest

-- "on a copy of the last page that becomes the next"
abbrev pub turned : Journal → (ℕ → TableRows) → ℕ → ℕ → TableRows
turned J next = updated (suc J.latest) next J.page

-- "Page 0 has no table; catalog ids count from 1, file ids from 0."
unfoldable pub empty_journal : Journal
empty_journal = record {
  latest = 0;
  next_catalog_id = 1;
  next_file_id = 0;
  table_of_file = λ file. 0;
  first_row = λ file. 0;
  page = λ s table. no_table_rows;
}

-- "Only an accepted commit writes"
unfoldable pub journaled : Journal → Commit → Journal
-- "Create schema takes a catalog id."
journaled J (create_schema name) = record {
  latest = suc J.latest;
  next_catalog_id = suc J.next_catalog_id;
  next_file_id = J.next_file_id;
  table_of_file = J.table_of_file;
  first_row = J.first_row;
  page = turned J (last_page J);
}
-- "Create table takes one; it joins with no rows, next row 0."
journaled J (create_table schema name columns names) = record {
  latest = suc J.latest;
  next_catalog_id = suc J.next_catalog_id;
  next_file_id = J.next_file_id;
  table_of_file = J.table_of_file;
  first_row = J.first_row;
  page = turned J (updated J.next_catalog_id (record { present = true; next_row = 0; rows = [] }) (last_page J));
}
-- "Insert registers the next file id under its table, with the table's next row as the file's first; it appends record_count rows from there and
-- moves next row past them."
journaled J (insert table record_count uuid statistics) =
    let t : TableRows = last_page J table in
    record {
      latest = suc J.latest;
      next_catalog_id = J.next_catalog_id;
      next_file_id = suc J.next_file_id;
      table_of_file = updated J.next_file_id table J.table_of_file;
      first_row = updated J.next_file_id t.next_row J.first_row;
      page = turned J (updated table
          (record { present = t.present; next_row = t.next_row + record_count; rows = t.rows ++ range t.next_row record_count }) (last_page J));
    }
-- "Delete registers a file id too and, for each position p, strikes the named file's first + p from that file's table."
journaled J (delete data_file uuid positions) =
    let table : ℕ = J.table_of_file data_file in
    let t : TableRows = last_page J table in
    record {
      latest = suc J.latest;
      next_catalog_id = J.next_catalog_id;
      next_file_id = suc J.next_file_id;
      table_of_file = J.table_of_file;
      first_row = J.first_row;
      page = turned J (updated table
          (record {
            present = t.present;
            next_row = t.next_row;
            rows = filter (λ r. not (has r (map (λ p. J.first_row data_file + p) positions))) t.rows;
          }) (last_page J));
    }
-- "Drop table strikes the table."
journaled J (drop_table table) = record {
  latest = suc J.latest;
  next_catalog_id = J.next_catalog_id;
  next_file_id = J.next_file_id;
  table_of_file = J.table_of_file;
  first_row = J.first_row;
  page = turned J (updated table no_table_rows (last_page J));
}
journaled J (drop_schema schema) = record {
  latest = suc J.latest;
  next_catalog_id = J.next_catalog_id;
  next_file_id = J.next_file_id;
  table_of_file = J.table_of_file;
  first_row = J.first_row;
  page = turned J (last_page J);
}
