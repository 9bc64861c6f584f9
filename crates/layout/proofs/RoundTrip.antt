-- Decode after encode, encode after decode, and the room of what is stored.
use Prim.Native.Nat.{ℕ, suc, ◌+◌, ◌*◌, ◌≤◌, ◌<◌}
use mathlib.Core.Path.{◌≡◌, refl, sym, ap, ◌∙◌}
use mathlib.Core.Bool.{true}
use mathlib.Core.List.{List, map, flat_map}
use native.Mathlib.Omega.{arith}
use lib.ListN.{length, length-map}
use borrow.Author.Tests.{eq-eqb}
use Rattle.lists.specs.Lists.{range, sum}
use Rattle.lists.specs.Runs.{Layout, at, table, replace}
use Rattle.lists.proofs.Tests.{and}
use Rattle.lists.proofs.Members.{In, All}
use Rattle.lists.proofs.Selections.{flat_map_length, map_ext, map-map, map_same}
use Rattle.lists.proofs.Runs.{replace_length}
use Rattle.lists.proofs.Layouts.{Lawful, words_of_length, table_kept, table_replace}
use Rattle.lists.proofs.Loops.{length-range}
use Rattle.lists.specs.Pieces.{row_pieces}
use Rattle.lists.proofs.Pieces.{joined, Sized, sizes_sum, start_grows, pieces_length, words_of_sized, pieces_kept, pieces_replace}
use Rattle.layout.specs.declared.outcome.Counts.{Counts}
use Rattle.layout.specs.Records.{delete_file_layout}
use Rattle.layout.specs.Catalog.{Catalog, snapshot_of, snapshot_record, schema_of, schema_record, table_of, table_record, column_of, column_record, data_file_of, data_file_record, delete_file_of, delete_file_record, statistics_of, statistics_record, scheduled_of, scheduled_record}
use Rattle.layout.specs.Names.{name_size, name_at}
use Rattle.layout.specs.Words.{Words, snapshot_at, schema_at, table_at, column_at, data_file_at, delete_count, positions_before, positions_then, position_pieces, positions_at, delete_file_at, statistics_at, scheduled_at, load, store_table, store_names, store, counts_of, capacity, within, fits}
use Rattle.layout.proofs.Records.{snapshot_lawful, schema_lawful, table_lawful, column_lawful, data_file_lawful, delete_file_lawful, statistics_lawful, scheduled_lawful}
use Rattle.layout.proofs.Room.{Held, held, fitting, SameLengths, capacity_same}

-- every name fills its place
pub record Named (C : Catalog) : Type 0 where
  pub schemas : All (λ v. length v.body.name ≡ name_size) C.schemas
  pub tables : All (λ v. length v.body.name ≡ name_size) C.tables
  pub columns : All (λ v. length v.body.name ≡ name_size) C.columns

-- rows in a run of which n records were in use

module _ {A X : Type 0} {L : Layout A} (F : Lawful L) (row : X → A) (old : List ℕ) (n : ℕ) where
  rows_length : (xs : List X) → L.size * n ≤ length old → L.size * length xs ≤ length old → length (store_table L old n (map row xs)) ≡ length old
  rows_length xs h g = replace_length old (L.size * n) _ h (rw (words_of_length L F, length-map) g)

  -- rows written again
  rows-kept : (f : ℕ → X) → map (λ i. row (f i)) (range 0 n) ≡ table L old n → L.size * n ≤ length old
      → store_table L old n (map row (map f (range 0 n))) ≡ old
  rows-kept f e h = ap (store_table L old n) (map-map row f (range 0 n) ∙ e) ∙ table_kept L F old n h

  module _ (xs : List X) where
    abbrev row_at : ℕ → A
    row_at = at L (store_table L old n (map row xs))

    rows_read : map row_at (range 0 (length xs)) ≡ map row xs
    rows_read = rw length-map at (table_replace L F old (L.size * n) (map row xs))

    fields_read : {B : Type 0} (field : A → B) → map (λ i. field (row_at i)) (range 0 (length xs)) ≡ map (λ x. field (row x)) xs
    fields_read field = sym (map-map field row_at (range 0 (length xs))) ∙ (ap (map field) rows_read ∙ map-map field row xs)

    -- records of rows alone, and of rows with something beside them
    records_read : (of : A → X) → ((x : X) → of (row x) ≡ x) → map (λ i. of (row_at i)) (range 0 (length xs)) ≡ xs
    records_read of e = joined (λ r _. of r) row_at row_at row row e (range 0 (length xs)) xs rows_read rows_read

    beside_read : {B : Type 0} (join : A → B → X) (g : ℕ → B) (side : X → B) → ((x : X) → join (row x) (side x) ≡ x)
        → map g (range 0 (length xs)) ≡ map side xs → map (λ i. join (row_at i) (g i)) (range 0 (length xs)) ≡ xs
    beside_read join g side e s = joined join row_at g row side e (range 0 (length xs)) xs rows_read s

-- names in a run of which n places were in use

module _ {X : Type 0} (name : X → List ℕ) (old : List ℕ) (n : ℕ) where
  names_kept : (f : ℕ → X) → ((j : ℕ) → name (f j) ≡ name_at old j) → name_size * n ≤ length old → store_names name old n (map f (range 0 n)) ≡ old
  names_kept f e h = pieces_kept (row_pieces name_size) name old n f e h

  module _ (xs : List X) (a : All (λ x. length (name x) ≡ name_size) xs) where
    sized : Sized (row_pieces name_size) name xs
    sized = map_same (λ x. length (name x)) name_size xs 0 a.at

    names_read : map (name_at (store_names name old n xs)) (range 0 (length xs)) ≡ map name xs
    names_read = pieces_replace (row_pieces name_size) name old (name_size * n) xs sized

    names_length : name_size * n ≤ length old → name_size * length xs ≤ length old → length (store_names name old n xs) ≡ length old
    names_length h g = replace_length old (name_size * n) _ h (rw (words_of_sized (row_pieces name_size) name xs sized) g)

-- positions

-- the positions of each delete file end where those of a later one begin, or before
pub positions_grow : (run : List ℕ) (i n : ℕ) → i ≤ n → positions_before run i ≤ positions_before run n
positions_grow run = start_grows (position_pieces run)

pub positions_end : (run : List ℕ) (i n : ℕ) → i < n → positions_before run i + delete_count run i ≤ positions_before run n
positions_end run i n h = omega (arith, positions_then run i, positions_grow run (suc i) n h)

-- the stored delete counts are those of the positions
positions_sized : (w : Words) (c : Counts) (C : Catalog) → Sized (position_pieces (store w c C).delete_files) (λ v. v.body.positions) C.delete_files
unfolding store
positions_sized w c C = fields_read delete_file_lawful delete_file_record w.delete_files c.delete_files C.delete_files (λ r. r.delete_count)

module _ (w : Words) (c : Counts) (h : fits w c ≡ true) where
  positions_held_lem : positions_before w.delete_files c.delete_files ≤ length w.positions
  positions_held_lem = omega (arith, fitting w c h)

  positions_length : (i : ℕ) → In i (range 0 c.delete_files) → length (positions_at w.delete_files w.positions i) ≡ delete_count w.delete_files i
  positions_length = pieces_length (position_pieces w.delete_files) w.positions c.delete_files positions_held_lem

  positions_sum : sum (map (λ v. length v.body.positions) (map (delete_file_at w.delete_files w.positions) (range 0 c.delete_files))) ≡ c.positions
  positions_sum =
      ap sum (map-map (λ v. length v.body.positions) (delete_file_at w.delete_files w.positions) (range 0 c.delete_files))
      ∙ (ap sum (map_ext (λ i. length (positions_at w.delete_files w.positions i)) (delete_count w.delete_files) (range 0 c.delete_files) positions_length)
      ∙ (sizes_sum (position_pieces w.delete_files) c.delete_files ∙ (fitting w c h).1))

  positions_kept : replace w.positions c.positions (flat_map (λ v. v.body.positions) (map (delete_file_at w.delete_files w.positions) (range 0 c.delete_files))) ≡ w.positions
  positions_kept =
      rw (fitting w c h).1 at
      (pieces_kept (position_pieces w.delete_files) (λ v. v.body.positions) w.positions c.delete_files (delete_file_at w.delete_files w.positions) (λ j. refl) positions_held_lem)

  delete_rows : map (λ i. delete_file_record (delete_file_at w.delete_files w.positions i)) (range 0 c.delete_files) ≡ table delete_file_layout w.delete_files c.delete_files
  delete_rows =
      map_ext (λ i. delete_file_record (delete_file_at w.delete_files w.positions i)) (at delete_file_layout w.delete_files) (range 0 c.delete_files)
      (λ i m. rw (positions_length i m))

-- decode after encode
pub load_store : (w : Words) (c : Counts) (C : Catalog) → Named C → load (store w c C) (counts_of C) ≡ C
unfolding load store counts_of
load_store w c C h = λ i. record {
  snapshots = records_read snapshot_lawful snapshot_record w.snapshots c.snapshots C.snapshots snapshot_of (λ x. refl) i;
  schemas = beside_read schema_lawful schema_record w.schemas c.schemas C.schemas schema_of _ _ (λ x. refl)
      (names_read (λ v. v.body.name) w.schema_names c.schemas C.schemas h.schemas) i;
  tables = beside_read table_lawful table_record w.tables c.tables C.tables table_of _ _ (λ x. refl)
      (names_read (λ v. v.body.name) w.table_names c.tables C.tables h.tables) i;
  columns = beside_read column_lawful column_record w.columns c.columns C.columns column_of _ _ (λ x. refl)
      (names_read (λ v. v.body.name) w.column_names c.columns C.columns h.columns) i;
  data_files = records_read data_file_lawful data_file_record w.data_files c.data_files C.data_files data_file_of (λ x. refl) i;
  delete_files = beside_read delete_file_lawful delete_file_record w.delete_files c.delete_files C.delete_files delete_file_of _ _ (λ x. refl)
      (pieces_replace (position_pieces (store w c C).delete_files) (λ v. v.body.positions) w.positions c.positions C.delete_files (positions_sized w c C)) i;
  statistics = records_read statistics_lawful statistics_record w.statistics c.statistics C.statistics statistics_of (λ x. refl) i;
  scheduled = records_read scheduled_lawful scheduled_record w.scheduled c.scheduled C.scheduled scheduled_of (λ x. refl) i;
}

-- encode after decode
pub store_load : (w : Words) (c : Counts) → fits w c ≡ true → store w c (load w c) ≡ w
unfolding load store
store_load w c h = λ i. record {
  snapshots = rows-kept snapshot_lawful snapshot_record w.snapshots c.snapshots (snapshot_at w.snapshots) refl room.snapshots i;
  schemas = rows-kept schema_lawful schema_record w.schemas c.schemas (schema_at w.schemas w.schema_names) refl room.schemas i;
  schema_names = names_kept (λ v. v.body.name) w.schema_names c.schemas (schema_at w.schemas w.schema_names) (λ j. refl) room.schema_names i;
  tables = rows-kept table_lawful table_record w.tables c.tables (table_at w.tables w.table_names) refl room.tables i;
  table_names = names_kept (λ v. v.body.name) w.table_names c.tables (table_at w.tables w.table_names) (λ j. refl) room.table_names i;
  columns = rows-kept column_lawful column_record w.columns c.columns (column_at w.columns w.column_names) refl room.columns i;
  column_names = names_kept (λ v. v.body.name) w.column_names c.columns (column_at w.columns w.column_names) (λ j. refl) room.column_names i;
  data_files = rows-kept data_file_lawful data_file_record w.data_files c.data_files (data_file_at w.data_files) refl room.data_files i;
  delete_files = rows-kept delete_file_lawful delete_file_record w.delete_files c.delete_files (delete_file_at w.delete_files w.positions) (delete_rows w c h) room.delete_files i;
  positions = positions_kept w c h i;
  statistics = rows-kept statistics_lawful statistics_record w.statistics c.statistics (statistics_at w.statistics) refl room.statistics i;
  scheduled = rows-kept scheduled_lawful scheduled_record w.scheduled c.scheduled (scheduled_at w.scheduled) refl room.scheduled i;
}
  where
    room : Held w c
    room = (fitting w c h).0

pub counts_load : (w : Words) (c : Counts) → fits w c ≡ true → counts_of (load w c) ≡ c
unfolding load counts_of
counts_load w c h = λ i. record {
  snapshots = used (snapshot_at w.snapshots) c.snapshots i;
  schemas = used (schema_at w.schemas w.schema_names) c.schemas i;
  tables = used (table_at w.tables w.table_names) c.tables i;
  columns = used (column_at w.columns w.column_names) c.columns i;
  data_files = used (data_file_at w.data_files) c.data_files i;
  delete_files = used (delete_file_at w.delete_files w.positions) c.delete_files i;
  positions = positions_sum w c h i;
  statistics = used (statistics_at w.statistics) c.statistics i;
  scheduled = used (scheduled_at w.scheduled) c.scheduled i;
}
  where
    used : {A : Type 0} (f : ℕ → A) (n : ℕ) → length (map f (range 0 n)) ≡ n
    used f n = length-map (range 0 n) f ∙ length-range 0 n

-- a catalog that has room is stored in runs of the same lengths, and fits them
pub store_lengths : (w : Words) (c : Counts) (C : Catalog) → Named C → within c (capacity w) ≡ true → within (counts_of C) (capacity w) ≡ true
    → SameLengths (store w c C) w
unfolding store counts_of
store_lengths w c C k h g = record {
  snapshots = rows_length snapshot_lawful snapshot_record w.snapshots c.snapshots C.snapshots old.snapshots new.snapshots;
  schemas = rows_length schema_lawful schema_record w.schemas c.schemas C.schemas old.schemas new.schemas;
  schema_names = names_length (λ v. v.body.name) w.schema_names c.schemas C.schemas k.schemas old.schema_names new.schema_names;
  tables = rows_length table_lawful table_record w.tables c.tables C.tables old.tables new.tables;
  table_names = names_length (λ v. v.body.name) w.table_names c.tables C.tables k.tables old.table_names new.table_names;
  columns = rows_length column_lawful column_record w.columns c.columns C.columns old.columns new.columns;
  column_names = names_length (λ v. v.body.name) w.column_names c.columns C.columns k.columns old.column_names new.column_names;
  data_files = rows_length data_file_lawful data_file_record w.data_files c.data_files C.data_files old.data_files new.data_files;
  delete_files = rows_length delete_file_lawful delete_file_record w.delete_files c.delete_files C.delete_files old.delete_files new.delete_files;
  positions = replace_length w.positions c.positions (flat_map (λ v. v.body.positions) C.delete_files) old.positions (rw flat_map_length new.positions);
  statistics = rows_length statistics_lawful statistics_record w.statistics c.statistics C.statistics old.statistics new.statistics;
  scheduled = rows_length scheduled_lawful scheduled_record w.scheduled c.scheduled C.scheduled old.scheduled new.scheduled;
}
  where
    old : Held w c
    old = held w c h

    new : Held w (counts_of C)
    new = held w (counts_of C) g

pub capacity_store : (w : Words) (c : Counts) (C : Catalog) → Named C → within c (capacity w) ≡ true → within (counts_of C) (capacity w) ≡ true
    → capacity (store w c C) ≡ capacity w
capacity_store w c C k h g = capacity_same (store w c C) w (store_lengths w c C k h g)

pub fits_store : (w : Words) (c : Counts) (C : Catalog) → Named C → within c (capacity w) ≡ true → within (counts_of C) (capacity w) ≡ true
    → fits (store w c C) (counts_of C) ≡ true
unfolding fits counts_of
fits_store w c C k h g =
    and (ap (within (counts_of C)) (capacity_store w c C k h g) ∙ g)
    (eq-eqb _ _ (sym (sizes_sum (position_pieces (store w c C).delete_files) (length C.delete_files)) ∙ ap sum (positions_sized w c C)))
