-- What the functions rely on, named.
use Rattle.std.specs.Prelude.{ℕ, ◌+◌, ◌*◌, ◌≤◌, ◌<◌, ◌≡◌, true, List, ltb, length}
use Rattle.lists.specs.Lists.{all}
use Rattle.layout.specs.declared.outcome.Counts.{Counts}
use Rattle.layout.specs.Fields.{snapshot_size, schema_size, table_size, column_size, data_file_size, delete_file_size, scheduled_size}
use Rattle.layout.specs.Names.{name_size, is_name}
use Rattle.layout.specs.Words.{schemas_in, tables_in, columns_in}
use Rattle.lookup.specs.Order.{SchemasById, TablesById, DataFilesById, DeleteFilesById}
use Rattle.soundness_unique.specs.declared.distinct.FileWords.{FileWords}
use Rattle.soundness_unique.specs.Files.{file_count}
use Rattle.soundness_unique.specs.Naming.{name_key_size}

-- the tables of files are lent as far as they are used
pub record FilesLent (data_files delete_files scheduled : List ℕ) (counts : Counts) : Type 0 where
  pub data_files_lent : data_file_size * counts.data_files ≤ length data_files
  pub delete_files_lent : delete_file_size * counts.delete_files ≤ length delete_files
  pub scheduled_lent : scheduled_size * counts.scheduled ≤ length scheduled

-- the ids from a counter ascend but in scheduled, the tables are lent as far as they are used, and there is a latest snapshot
pub record Numbered (snapshots schemas tables data_files delete_files scheduled : List ℕ) (counts : Counts) : Type 0 where
  pub snapshots_lent : snapshot_size * counts.snapshots ≤ length snapshots
  pub latest : 0 < counts.snapshots
  pub schemas_by_id : SchemasById schemas counts.schemas
  pub tables_by_id : TablesById tables counts.tables
  pub data_files_by_id : DataFilesById data_files counts.data_files
  pub delete_files_by_id : DeleteFilesById delete_files counts.delete_files
  pub scheduled_lent : scheduled_size * counts.scheduled ≤ length scheduled

-- the tables with names are lent as far as they are used; their names are names, and their records' lives not empty
pub record Named (schemas schema_names tables table_names columns column_names : List ℕ) (counts : Counts) : Type 0 where
  pub schemas_lent : schema_size * counts.schemas ≤ length schemas
  pub schema_names_lent : name_size * counts.schemas ≤ length schema_names
  pub schemas_named : all (λ v. is_name v.body.name) (schemas_in schemas schema_names counts.schemas) ≡ true
  pub schemas_live : all (λ v. ltb v.begin v.end) (schemas_in schemas schema_names counts.schemas) ≡ true
  pub tables_lent : table_size * counts.tables ≤ length tables
  pub table_names_lent : name_size * counts.tables ≤ length table_names
  pub tables_named : all (λ v. is_name v.body.name) (tables_in tables table_names counts.tables) ≡ true
  pub tables_live : all (λ v. ltb v.begin v.end) (tables_in tables table_names counts.tables) ≡ true
  pub columns_lent : column_size * counts.columns ≤ length columns
  pub column_names_lent : name_size * counts.columns ≤ length column_names
  pub columns_named : all (λ v. is_name v.body.name) (columns_in columns column_names counts.columns) ≡ true
  pub columns_live : all (λ v. ltb v.begin v.end) (columns_in columns column_names counts.columns) ≡ true

-- a word of a record of each table
pub record WordsInside (words : FileWords) : Type 0 where
  pub in_data_file : words.data_file < data_file_size
  pub in_delete_file : words.delete_file < delete_file_size
  pub in_scheduled : words.scheduled < scheduled_size

-- such words of files at some places, and keys of `size` words, as many as there are files, into whose word `at` they can be put
pub record FilesPuttable (counts : Counts) (words : FileWords) (size at : ℕ) (places keys : List ℕ) : Type 0 where
  pub inside : WordsInside words
  pub present : all (λ p. ltb p (file_count counts)) places ≡ true
  pub room : size * file_count counts ≤ length keys
  pub within : at < size

-- `size` words of a record of each table, and those of files at some places with room for keys of them
pub record KeyWordsInside (words : FileWords) (size : ℕ) : Type 0 where
  pub in_data_file : words.data_file + size ≤ data_file_size
  pub in_delete_file : words.delete_file + size ≤ delete_file_size
  pub in_scheduled : words.scheduled + size ≤ scheduled_size

pub record FileKeysPuttable (counts : Counts) (words : FileWords) (size : ℕ) (places keys : List ℕ) : Type 0 where
  pub inside : KeyWordsInside words size
  pub present : all (λ p. ltb p (file_count counts)) places ≡ true
  pub room : size * file_count counts ≤ length keys

-- scratch for keys of one or two words, and as many places as there are files
pub record FilesSortable (counts : Counts) (keys w v : List ℕ) : Type 0 where
  pub room : 2 * file_count counts ≤ length keys
  pub places : length w ≡ file_count counts
  pub scratch : length v ≡ file_count counts

-- scratch that may be longer: for files,
pub record FilesScratch (counts : Counts) (keys w v : List ℕ) : Type 0 where
  pub room : 2 * file_count counts ≤ length keys
  pub places : file_count counts ≤ length w
  pub spare : file_count counts ≤ length v

-- and for the tables with names, none of which has more than so many records
pub record NamesScratch (counts : Counts) (keys w v : List ℕ) : Type 0 where
  pub most : ℕ
  pub schemas : counts.schemas ≤ most
  pub tables : counts.tables ≤ most
  pub columns : counts.columns ≤ most
  pub room : name_key_size * most ≤ length keys
  pub places : most ≤ length w
  pub spare : most ≤ length v
