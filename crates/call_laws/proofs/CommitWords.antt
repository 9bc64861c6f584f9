-- What each commit leaves in the runs, by the laws of stored runs: of the runs that it changes an equation is given, the others are as they were.
use Prim.Native.Nat.{ℕ, suc, ◌*◌}
use mathlib.Core.Path.{◌≡◌, refl, sym, ap, ap₂, ◌∙◌}
use mathlib.Core.Bool.{Bool, true}
use mathlib.Core.List.{List, [], ◌∷◌, ◌++◌, map, flat_map, append-nil}
use native.Mathlib.Nat.{add-zero}
use native.Mathlib.Omega.{arith}
use lib.Dec.{eqb}
use lib.ListN.{length}
use lib.Seq.{take_all}
use borrow.Author.Tests.{eqb-true}
use Rattle.lists.specs.Lists.{range, sort_by}
use Rattle.lists.specs.Runs.{overwrite, set_where, add_where}
use Rattle.lists.proofs.Tests.{if, both}
use Rattle.lists.proofs.Selections.{flat_map_append, flat_map_map}
use Rattle.lists.specs.Pieces.{piece, row_pieces}
use Rattle.lists.proofs.Pieces.{words_of_pieces}
use Rattle.layout.specs.declared.outcome.Counts.{Counts}
use Rattle.layout.specs.declared.record.Uuid.{Uuid}
use Rattle.layout.specs.Fields.{snapshot_size, schema_size, schema_id_word, schema_end_word, table_size, table_id_word, table_end_word, table_next_row_id_word, column_size, column_table_word, column_end_word, data_file_size, data_file_table_word, data_file_end_word, delete_file_size, delete_file_table_word, delete_file_data_file_word, delete_file_end_word}
use Rattle.layout.specs.Records.{snapshot_words, schema_words, table_words, column_words, data_file_words, delete_file_words, column_layout, statistics_layout}
use Rattle.layout.specs.Catalog.{absent, Versioned, Snapshot, Table, DataFile, DeleteFile, Catalog, snapshot_record, schema_record, table_record, column_record, data_file_record, delete_file_record, statistics_record}
use Rattle.layout.specs.Names.{name_size, padded}
use Rattle.layout.specs.Words.{Words, lent, load, store, fits, snapshots_in, tables_in, data_files_in, delete_files_in}
use Rattle.call_laws.specs.Writes.{end_records, grow_records, opened, extend_table, extend_names}
use Rattle.call_laws.proofs.Stores.{StoredTable, run_same, run_more, records_same, records_more, table_same, table_more, table_changed, table_changed_more, Ended, closed_words, beside_same, snapshot_table, schema_table, table_table, column_table, data_file_table, delete_file_table, statistics_table, scheduled_table, schema_name_run, table_name_run, column_name_run, position_run}
use Rattle.ducklake.specs.Kinds.{created_schema, created_table, inserted_into_table, deleted_from_table, dropped_schema, dropped_table}
use Rattle.ducklake.specs.Liveness.{latest_of, latest, latest_id, table_of_id, data_file_of_id, deleted_at}
use Rattle.ducklake.specs.Arguments.{column_argument_size, column_arguments, new_columns, columns_whole, columns_fit, new_statistics}
use Rattle.ducklake.specs.Commits.{Change, create_schema, create_table, insert, delete, drop_table, drop_schema, close, grow, born, none, no_rows, next_snapshot, commit, new_table, new_data_file, change_of, new_data_file_id, following}
use Rattle.call_laws.proofs.Commits.{next-is}

-- runs are equal one by one
pub words_same : {v w : Words} → v.snapshots ≡ w.snapshots → v.schemas ≡ w.schemas → v.schema_names ≡ w.schema_names → v.tables ≡ w.tables
    → v.table_names ≡ w.table_names → v.columns ≡ w.columns → v.column_names ≡ w.column_names → v.data_files ≡ w.data_files
    → v.delete_files ≡ w.delete_files → v.positions ≡ w.positions → v.statistics ≡ w.statistics → v.scheduled ≡ w.scheduled → v ≡ w
words_same a b c d e f g h i j k l = λ x. lent (a x) (b x) (c x) (d x) (e x) (f x) (g x) (h x) (i x) (j x) (k x) (l x)

-- Records of which a commit ends none

pub closed_none : {A : Type 0} (n : ℕ) (xs : List (Versioned A)) → map (close n none) xs ≡ xs
unfolding close
closed_none n [] = refl
closed_none n (x ∷ xs) = ap (λ ys. x ∷ ys) (closed_none n xs)

pub closed_same : {A : Type 0} (n : ℕ) (xs : List (Versioned A)) → map (close n none) xs ++ [] ≡ xs
closed_same n xs = append-nil _ ∙ closed_none n xs

-- to which it adds one
closed_one : {A : Type 0} (n k m : ℕ) (xs : List (Versioned A)) (y : A) → k ≡ m → map (close n none) xs ++ (opened n k y ∷ []) ≡ xs ++ (opened n m y ∷ [])
closed_one n k m xs y e = ap₂ (λ vs i. vs ++ (opened n i y ∷ [])) (closed_none n xs) e

grow_none : (rows : Versioned Table → ℕ) (v : Versioned Table) → rows v ≡ 0 → grow rows v ≡ v
unfolding grow
grow_none rows v e = rw (e, add-zero) refl

grown_none : (n : ℕ) (xs : List (Versioned Table)) → map (λ t. close n none (grow no_rows t)) xs ≡ xs
unfolding close grow
grown_none n [] = refl
grown_none n (x ∷ xs) = rw (add-zero, grown_none n xs) refl

grown_one : (n k m : ℕ) (xs : List (Versioned Table)) (y : Table) → k ≡ m → map (λ t. close n none (grow no_rows t)) xs ++ (opened n k y ∷ []) ≡ xs ++ (opened n m y ∷ [])
grown_one n k m xs y e = ap₂ (λ vs i. vs ++ (opened n i y ∷ [])) (grown_none n xs) e

grown_same : (n : ℕ) (xs : List (Versioned Table)) → map (λ t. close n none (grow no_rows t)) xs ++ [] ≡ xs
grown_same n xs = append-nil _ ∙ grown_none n xs

-- names and positions stay where records change in their places
beside_closed : {A : Type 0} (words : A → List ℕ) (n : ℕ) (named : Versioned A → Bool) (xs ys : List (Versioned A))
    → flat_map (λ v. words v.body) (map (close n named) xs ++ ys) ≡ flat_map (λ v. words v.body) xs ++ flat_map (λ v. words v.body) ys
unfolding close
beside_closed words n named xs ys =
    flat_map_append _ (map (close n named) xs) ys
    ∙ ap (λ ps. ps ++ flat_map (λ v. words v.body) ys) (beside_same (λ v. words v.body) (close n named) xs (λ x. refl))

-- what lies beside new records
born_words : {A : Type 0} (words : A → List ℕ) (n k : ℕ) (xs : List A) → flat_map (λ v. words v.body) (born n k xs) ≡ flat_map words xs
unfolding flat_map
born_words words n k [] = refl
born_words words n k (x ∷ xs) = ap (λ ws. words x ++ ws) (born_words words n (suc k) xs)

-- the name places of new columns are those of the argument
pub column_names_lem : (table : ℕ) (words names : List ℕ) → columns_fit table words names ≡ true → flat_map (λ x. x.name) (new_columns table words names) ≡ names
unfolding columns_whole columns_fit new_columns
column_names_lem table words names h =
    let e = (both (eqb (length words) (column_argument_size * column_arguments words)) (eqb (length names) (name_size * column_arguments words)) (both _ _ (both _ _ (both _ _ (both _ _ h).0).0).0).0).1 in
    flat_map_map (piece (row_pieces name_size) names) (λ x. x.name) _ (range 0 (column_arguments words)) (λ j m. refl)
    ∙ (words_of_pieces (row_pieces name_size) names (column_arguments words) ∙ take_all (name_size * column_arguments words) names (omega (arith, eqb-true (length names) (name_size * column_arguments words) e)))

names_grown : (n : ℕ) (named : Versioned Table → Bool) (rows : Versioned Table → ℕ) (xs ys : List (Versioned Table))
    → flat_map (λ v. v.body.name) (map (λ t. close n named (grow rows t)) xs ++ ys) ≡ flat_map (λ v. v.body.name) xs ++ flat_map (λ v. v.body.name) ys
unfolding close grow
names_grown n named rows xs ys =
    flat_map_append _ (map (λ t. close n named (grow rows t)) xs) ys
    ∙ ap (λ ps. ps ++ flat_map (λ v. v.body.name) ys) (beside_same (λ v. v.body.name) (λ t. close n named (grow rows t)) xs (λ x. refl))

-- the word that names a record of each table, and the word of its end

schema_ended : Ended schema_table schema_id_word schema_end_word (λ v. v.id)
unfolding schema_words
schema_ended = record { key-is = λ v. refl; end_is = λ v. refl; set_is = λ v e. refl }

table_ended : Ended table_table table_id_word table_end_word (λ v. v.id)
unfolding table_words
table_ended = record { key-is = λ v. refl; end_is = λ v. refl; set_is = λ v e. refl }

column_ended : Ended column_table column_table_word column_end_word (λ v. v.body.table)
unfolding column_words
column_ended = record { key-is = λ v. refl; end_is = λ v. refl; set_is = λ v e. refl }

data_file_ended : Ended data_file_table data_file_table_word data_file_end_word (λ v. v.body.table)
unfolding data_file_words
data_file_ended = record { key-is = λ v. refl; end_is = λ v. refl; set_is = λ v e. refl }

delete_file_of_table_ended : Ended delete_file_table delete_file_table_word delete_file_end_word (λ v. v.body.table)
unfolding delete_file_words
delete_file_of_table_ended = record { key-is = λ v. refl; end_is = λ v. refl; set_is = λ v e. refl }

delete_file_ended : Ended delete_file_table delete_file_data_file_word delete_file_end_word (λ v. v.body.data_file)
unfolding delete_file_words
delete_file_ended = record { key-is = λ v. refl; end_is = λ v. refl; set_is = λ v e. refl }

module _ (w : Words) (c : Counts) (h : fits w c ≡ true) (time : ℕ) where
  abbrev l : Snapshot
  l = latest_of (snapshots_in w.snapshots c.snapshots)

  abbrev C : Catalog
  C = load w c

  -- the new snapshot, behind those in use
  snapshot_run_lem : (d : Change) {s : Snapshot} {ns : List ℕ} → s ≡ next_snapshot C d → ns ≡ overwrite w.snapshots (snapshot_size * c.snapshots) (snapshot_words (snapshot_record s))
      → ns ≡ (store w c (commit C d)).snapshots
  unfolding commit flat_map
  snapshot_run_lem d {s} e q =
      q ∙ (ap (λ (n : Snapshot). overwrite w.snapshots (snapshot_size * c.snapshots) (snapshot_words (snapshot_record n))) e
      ∙ (ap (overwrite w.snapshots (snapshot_size * c.snapshots)) (sym (append-nil (snapshot_words (snapshot_record (next_snapshot C d)))))
      ∙ table_more snapshot_table w c h (commit C d) (next_snapshot C d ∷ []) refl))

  -- one record more, behind those in use
  one_more : {A X : Type 0} (T : StoredTable A X) (D : Catalog) {x y : X} {v : List ℕ} → T.records D ≡ T.records C ++ (x ∷ []) → y ≡ x
      → v ≡ overwrite (T.run w) (T.layout.size * T.count c) (T.layout.words (T.row y)) → v ≡ T.run (store w c D)
  unfolding flat_map
  one_more T D {x} {y} e q r =
      r ∙ (ap (λ z. overwrite (T.run w) (T.layout.size * T.count c) (T.layout.words (T.row z))) q
      ∙ (ap (overwrite (T.run w) (T.layout.size * T.count c)) (sym (append-nil (T.layout.words (T.row x)))) ∙ table_more T w c h D (x ∷ []) e))

  module _ (name : List ℕ) where
    abbrev created : Change
    created = change_of C time (create_schema name)

    pub create_schema_words : {ns ss xs : List ℕ}
        → ns ≡ overwrite w.snapshots (snapshot_size * c.snapshots) (snapshot_words (snapshot_record (following l time created_schema l.next_catalog_id 1 0)))
        → ss ≡ overwrite w.schemas (schema_size * c.schemas) (schema_words (schema_record (opened (suc l.id) l.next_catalog_id (record { name = padded name }))))
        → xs ≡ overwrite w.schema_names (name_size * c.schemas) (padded name)
        → lent ns ss xs w.tables w.table_names w.columns w.column_names w.data_files w.delete_files w.positions w.statistics w.scheduled ≡ store w c (commit C created)
    unfolding commit change_of load flat_map
    create_schema_words p q r =
        let D = commit C created in
        words_same
        (snapshot_run_lem created (next-is C created (latest C) 1 0 refl refl refl) p)
        (one_more schema_table D (closed_one (suc (latest_id C)) _ _ C.schemas (record { name = padded name }) refl) refl q)
        (r ∙ (ap (overwrite w.schema_names (name_size * c.schemas)) (sym (append-nil (padded name))) ∙ run_more schema_name_run w c h D _ (beside_closed (λ s. s.name) _ none C.schemas _)))
        (table_same table_table w c h D (grown_same _ C.tables))
        (records_same table_name_run w c h D (grown_same _ C.tables))
        (table_same column_table w c h D (closed_same _ C.columns))
        (records_same column_name_run w c h D (closed_same _ C.columns))
        (table_same data_file_table w c h D (closed_same _ C.data_files))
        (table_same delete_file_table w c h D (closed_same _ C.delete_files))
        (records_same position_run w c h D (closed_same _ C.delete_files))
        (table_same statistics_table w c h D (append-nil C.statistics))
        (table_same scheduled_table w c h D refl)

  module _ (schema : ℕ) (name words names : List ℕ) where
    abbrev created_table_change : Change
    created_table_change = change_of C time (create_table schema name words names)

    pub create_table_words : {ns ts tn cs cn : List ℕ}
        → ns ≡ overwrite w.snapshots (snapshot_size * c.snapshots) (snapshot_words (snapshot_record (following l time created_table l.next_catalog_id 1 0)))
        → ts ≡ overwrite w.tables (table_size * c.tables) (table_words (table_record (opened (suc l.id) l.next_catalog_id (new_table schema name))))
        → tn ≡ overwrite w.table_names (name_size * c.tables) (padded name)
        → cs ≡ extend_table column_layout w.columns c.columns (map column_record (born (suc l.id) 1 (new_columns l.next_catalog_id words names)))
        → cn ≡ extend_names (λ x. x.name) w.column_names c.columns (new_columns l.next_catalog_id words names)
        → lent ns w.schemas w.schema_names ts tn cs cn w.data_files w.delete_files w.positions w.statistics w.scheduled ≡ store w c (commit C created_table_change)
    unfolding commit change_of load flat_map
    create_table_words p q r s t =
        let D = commit C created_table_change in
        let columns = new_columns (latest C).next_catalog_id words names in
        let new = born (suc (latest_id C)) 1 columns in
        words_same
        (snapshot_run_lem created_table_change (next-is C created_table_change (latest C) 1 0 refl refl refl) p)
        (table_same schema_table w c h D (closed_same _ C.schemas))
        (records_same schema_name_run w c h D (closed_same _ C.schemas))
        (one_more table_table D (grown_one (suc (latest_id C)) _ _ C.tables (new_table schema name) (add-zero (latest C).next_catalog_id)) refl q)
        (r ∙ (ap (overwrite w.table_names (name_size * c.tables)) (sym (append-nil (padded name))) ∙ run_more table_name_run w c h D _ (names_grown _ none no_rows C.tables _)))
        (s ∙ table_more column_table w c h D new (ap (λ vs. vs ++ new) (closed_none _ C.columns)))
        (t ∙ (ap (overwrite w.column_names (name_size * c.columns)) (sym (born_words (λ x. x.name) (suc (latest_id C)) 1 columns)) ∙ records_more column_name_run w c h D new (ap (λ vs. vs ++ new) (closed_none _ C.columns))))
        (table_same data_file_table w c h D (closed_same _ C.data_files))
        (table_same delete_file_table w c h D (closed_same _ C.delete_files))
        (records_same position_run w c h D (closed_same _ C.delete_files))
        (table_same statistics_table w c h D (append-nil C.statistics))
        (table_same scheduled_table w c h D refl)

  module _ (table rows : ℕ) (uuid : Uuid) (statistics : List ℕ) where
    abbrev inserted : Change
    inserted = change_of C time (insert table rows uuid statistics)

    grown_is : (v : Versioned Table) → table_words (table_record (close (suc (latest_id C)) none (grow inserted.rows v)))
        ≡ add_where table_id_word table_next_row_id_word table rows (table_words (table_record v))
    unfolding change_of close grow table_words add_where
    grown_is v = if (eqb v.id table) (λ b. rw b refl) (λ b. rw (b, add-zero) refl)

    pub insert_words : {ns ts fs qs : List ℕ}
        → ns ≡ overwrite w.snapshots (snapshot_size * c.snapshots) (snapshot_words (snapshot_record (following l time inserted_into_table table 0 1)))
        → ts ≡ grow_records table_size table_id_word table_next_row_id_word table rows w.tables c.tables
        → fs ≡ overwrite w.data_files (data_file_size * c.data_files) (data_file_words (data_file_record (opened (suc l.id) l.next_file_id
        (new_data_file table rows (table_of_id (tables_in w.tables w.table_names c.tables) table).body.next_row_id uuid))))
        → qs ≡ extend_table statistics_layout w.statistics c.statistics (map statistics_record (new_statistics l.next_file_id statistics))
        → lent ns w.schemas w.schema_names ts w.table_names w.columns w.column_names fs w.delete_files w.positions qs w.scheduled ≡ store w c (commit C inserted)
    unfolding commit change_of load flat_map
    insert_words p q r s =
        let D = commit C inserted in
        let new : DataFile = new_data_file table rows (table_of_id C.tables table).body.next_row_id uuid in
        words_same
        (snapshot_run_lem inserted (next-is C inserted (latest C) 0 1 refl refl refl) p)
        (table_same schema_table w c h D (closed_same _ C.schemas))
        (records_same schema_name_run w c h D (closed_same _ C.schemas))
        (q ∙ table_changed table_table w c h D (λ t. close (suc (latest_id C)) none (grow inserted.rows t)) (add_where table_id_word table_next_row_id_word table rows) grown_is (append-nil _))
        (run_same table_name_run w c h D (names_grown _ none inserted.rows C.tables [] ∙ append-nil _))
        (table_same column_table w c h D (closed_same _ C.columns))
        (records_same column_name_run w c h D (closed_same _ C.columns))
        (one_more data_file_table D (closed_one (suc (latest_id C)) _ _ C.data_files new (add-zero (latest C).next_file_id)) refl r)
        (table_same delete_file_table w c h D (closed_same _ C.delete_files))
        (records_same position_run w c h D (closed_same _ C.delete_files))
        (s ∙ (ap (λ k. extend_table statistics_layout w.statistics c.statistics (map statistics_record (new_statistics k statistics))) (sym (add-zero (latest C).next_file_id))
        ∙ table_more statistics_table w c h D (new_statistics (new_data_file_id C 0) statistics) refl))
        (table_same scheduled_table w c h D refl)

  module _ (data_file : ℕ) (uuid : Uuid) (positions : List ℕ) where
    abbrev deleted : Change
    deleted = change_of C time (delete data_file uuid positions)

    -- the delete file that holds both sets of positions
    abbrev new_delete_file : List ℕ → DeleteFile
    new_delete_file ps = record { table = (data_file_of_id (data_files_in w.data_files c.data_files) data_file).body.table; data_file = data_file; positions = ps; uuid = uuid }

    pub delete_words : {ns ds qs ps : List ℕ}
        → qs ≡ sort_by (λ p. p) (deleted_at (delete_files_in w.delete_files w.positions c.delete_files) l.id data_file ++ positions)
        → ns ≡ overwrite w.snapshots (snapshot_size * c.snapshots) (snapshot_words (snapshot_record (following l time deleted_from_table (new_delete_file qs).table 0 1)))
        → ds ≡ overwrite (end_records delete_file_size delete_file_data_file_word delete_file_end_word data_file (suc l.id) w.delete_files c.delete_files) (delete_file_size * c.delete_files)
        (delete_file_words (delete_file_record (opened (suc l.id) l.next_file_id (new_delete_file qs))))
        → ps ≡ overwrite w.positions c.positions qs
        → lent ns w.schemas w.schema_names w.tables w.table_names w.columns w.column_names w.data_files ds ps w.statistics w.scheduled ≡ store w c (commit C deleted)
    unfolding commit change_of load flat_map
    delete_words {qs = qs} a p q r =
        let D = commit C deleted in
        let all = sort_by (λ p. p) (deleted_at C.delete_files (latest_id C) data_file ++ positions) in
        let n : ℕ = suc (latest_id C) in
        let new = opened n (latest C).next_file_id (new_delete_file all) in
        let ended = end_records delete_file_size delete_file_data_file_word delete_file_end_word data_file n w.delete_files c.delete_files in
        words_same
        (snapshot_run_lem deleted (next-is C deleted (latest C) 0 1 refl refl refl) p)
        (table_same schema_table w c h D (closed_same _ C.schemas))
        (records_same schema_name_run w c h D (closed_same _ C.schemas))
        (table_same table_table w c h D (grown_same _ C.tables))
        (records_same table_name_run w c h D (grown_same _ C.tables))
        (table_same column_table w c h D (closed_same _ C.columns))
        (records_same column_name_run w c h D (closed_same _ C.columns))
        (table_same data_file_table w c h D (closed_same _ C.data_files))
        (q ∙ (ap (λ ps. overwrite ended (delete_file_size * c.delete_files) (delete_file_words (delete_file_record (opened n (latest C).next_file_id (new_delete_file ps))))) a
        ∙ (ap (overwrite ended (delete_file_size * c.delete_files)) (sym (append-nil (delete_file_words (delete_file_record new))))
        ∙ table_changed_more delete_file_table w c h D (close n deleted.ends.delete_file) (set_where delete_file_data_file_word delete_file_end_word data_file absent n) (closed_words delete_file_table delete_file_ended data_file n) (new ∷ []) refl)))
        (r ∙ (ap (overwrite w.positions c.positions) (a ∙ sym (append-nil all)) ∙ run_more position_run w c h D _ (beside_closed (λ d. d.positions) _ deleted.ends.delete_file C.delete_files (new ∷ []))))
        (table_same statistics_table w c h D (append-nil C.statistics))
        (table_same scheduled_table w c h D refl)

  module _ (table : ℕ) where
    abbrev dropped_table_change : Change
    dropped_table_change = change_of C time (drop_table table)

    abbrev n : ℕ
    n = suc (latest_id C)

    table_is : (v : Versioned Table) → table_words (table_record (close n (λ t. eqb t.id table) (grow no_rows v))) ≡ set_where table_id_word table_end_word table absent n (table_words (table_record v))
    table_is v = ap (λ (t : Versioned Table). table_words (table_record (close n (λ t. eqb t.id table) t))) (grow_none no_rows v refl) ∙ closed_words table_table table_ended table n v

    pub drop_table_words : {ns ts cs fs ds : List ℕ}
        → ns ≡ overwrite w.snapshots (snapshot_size * c.snapshots) (snapshot_words (snapshot_record (following l time dropped_table table 0 0)))
        → ts ≡ end_records table_size table_id_word table_end_word table (suc l.id) w.tables c.tables
        → cs ≡ end_records column_size column_table_word column_end_word table (suc l.id) w.columns c.columns
        → fs ≡ end_records data_file_size data_file_table_word data_file_end_word table (suc l.id) w.data_files c.data_files
        → ds ≡ end_records delete_file_size delete_file_table_word delete_file_end_word table (suc l.id) w.delete_files c.delete_files
        → lent ns w.schemas w.schema_names ts w.table_names cs w.column_names fs ds w.positions w.statistics w.scheduled ≡ store w c (commit C dropped_table_change)
    unfolding commit change_of load flat_map
    drop_table_words p q r s t =
        let D = commit C dropped_table_change in
        words_same
        (snapshot_run_lem dropped_table_change (next-is C dropped_table_change (latest C) 0 0 refl refl refl) p)
        (table_same schema_table w c h D (closed_same _ C.schemas))
        (records_same schema_name_run w c h D (closed_same _ C.schemas))
        (q ∙ table_changed table_table w c h D (λ t. close n (λ t. eqb t.id table) (grow no_rows t)) (set_where table_id_word table_end_word table absent n) table_is (append-nil _))
        (run_same table_name_run w c h D (names_grown _ (λ t. eqb t.id table) no_rows C.tables [] ∙ append-nil _))
        (r ∙ table_changed column_table w c h D (close n (λ x. eqb x.body.table table)) (set_where column_table_word column_end_word table absent n) (closed_words column_table column_ended table n) (append-nil _))
        (run_same column_name_run w c h D (beside_closed (λ x. x.name) _ (λ x. eqb x.body.table table) C.columns [] ∙ append-nil _))
        (s ∙ table_changed data_file_table w c h D (close n (λ x. eqb x.body.table table)) (set_where data_file_table_word data_file_end_word table absent n) (closed_words data_file_table data_file_ended table n) (append-nil _))
        (t ∙ table_changed delete_file_table w c h D (close n (λ x. eqb x.body.table table)) (set_where delete_file_table_word delete_file_end_word table absent n) (closed_words delete_file_table delete_file_of_table_ended table n) (append-nil _))
        (run_same position_run w c h D (beside_closed (λ x. x.positions) _ (λ x. eqb x.body.table table) C.delete_files [] ∙ append-nil _))
        (table_same statistics_table w c h D (append-nil C.statistics))
        (table_same scheduled_table w c h D refl)

  module _ (schema : ℕ) where
    abbrev dropped_schema_change : Change
    dropped_schema_change = change_of C time (drop_schema schema)

    pub drop_schema_words : {ns ss : List ℕ}
        → ns ≡ overwrite w.snapshots (snapshot_size * c.snapshots) (snapshot_words (snapshot_record (following l time dropped_schema schema 0 0)))
        → ss ≡ end_records schema_size schema_id_word schema_end_word schema (suc l.id) w.schemas c.schemas
        → lent ns ss w.schema_names w.tables w.table_names w.columns w.column_names w.data_files w.delete_files w.positions w.statistics w.scheduled ≡ store w c (commit C dropped_schema_change)
    unfolding commit change_of load flat_map
    drop_schema_words p q =
        let D = commit C dropped_schema_change in
        words_same
        (snapshot_run_lem dropped_schema_change (next-is C dropped_schema_change (latest C) 0 0 refl refl refl) p)
        (q ∙ table_changed schema_table w c h D (close (suc (latest_id C)) (λ x. eqb x.id schema)) (set_where schema_id_word schema_end_word schema absent (suc (latest_id C))) (closed_words schema_table schema_ended schema (suc (latest_id C))) (append-nil _))
        (run_same schema_name_run w c h D (beside_closed (λ x. x.name) _ (λ x. eqb x.id schema) C.schemas [] ∙ append-nil _))
        (table_same table_table w c h D (grown_same _ C.tables))
        (records_same table_name_run w c h D (grown_same _ C.tables))
        (table_same column_table w c h D (closed_same _ C.columns))
        (records_same column_name_run w c h D (closed_same _ C.columns))
        (table_same data_file_table w c h D (closed_same _ C.data_files))
        (table_same delete_file_table w c h D (closed_same _ C.delete_files))
        (records_same position_run w c h D (closed_same _ C.delete_files))
        (table_same statistics_table w c h D (append-nil C.statistics))
        (table_same scheduled_table w c h D refl)
