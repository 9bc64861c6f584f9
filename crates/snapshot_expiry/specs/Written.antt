-- What the functions of this crate rely on, and what they leave.
use Rattle.std.specs.Prelude.{ℕ, ◌+◌, ◌*◌, ◌≤◌, List, length}
use Rattle.layout.specs.declared.outcome.Counts.{Counts}
use Rattle.layout.specs.Fields.{schema_size, schema_begin_word, table_size, table_begin_word, column_size, column_begin_word, data_file_size, data_file_begin_word, delete_file_size, delete_file_begin_word, scheduled_size}
use Rattle.expiry.specs.Removed.{removed_files, Files, ScheduledMore}
use Rattle.expiry.specs.Stayed.{RecordsLeft, NamedLeft, NamedVersions, Located, PositionsLeft, StatisticsOfFiles, StatisticsLeft}

-- schemas, tables and columns with their names
pub record DefinitionsLent (ss sn ts tn cs cn : List ℕ) (c : Counts) : Type 0 where
  pub schemas : NamedVersions schema_size schema_begin_word ss sn c.schemas
  pub tables : NamedVersions table_size table_begin_word ts tn c.tables
  pub columns : NamedVersions column_size column_begin_word cs cn c.columns

-- those that are live at one of the ids
pub record DefinitionsLeft (ss sn ts tn cs cn : List ℕ) (c : Counts) (ids : List ℕ) (r : Counts) (ss' sn' ts' tn' cs' cn' : List ℕ) : Type 0 where
  pub schemas : NamedLeft schema_size schema_begin_word ss sn c.schemas ids r.schemas ss' sn'
  pub tables : NamedLeft table_size table_begin_word ts tn c.tables ids r.tables ts' tn'
  pub columns : NamedLeft column_size column_begin_word cs cn c.columns ids r.columns cs' cn'

-- files with what goes with them, and room for those that go behind the scheduled records
pub record FilesLent (fs ds ps qs xs : List ℕ) (c : Counts) (ids : List ℕ) (time : ℕ) : Type 0 where
  pub files : Files fs c.data_files ds c.delete_files
  pub located : Located ds ps c.delete_files
  pub statistics : StatisticsOfFiles qs c.statistics fs c.data_files
  pub room : scheduled_size * (c.scheduled + length (removed_files fs c.data_files ds c.delete_files ids time)) ≤ length xs

-- those that are live at one of the ids, and the others scheduled
pub record FilesLeft (fs ds ps qs xs : List ℕ) (c : Counts) (ids : List ℕ) (time : ℕ) (r : Counts) (fs' ds' ps' qs' xs' : List ℕ) : Type 0 where
  pub data_files : RecordsLeft data_file_size data_file_begin_word fs c.data_files ids r.data_files fs'
  pub delete_files : RecordsLeft delete_file_size delete_file_begin_word ds c.delete_files ids r.delete_files ds'
  pub positions : PositionsLeft ds ps c.delete_files ids r.positions ps'
  pub statistics : StatisticsLeft qs c.statistics fs c.data_files ids r.statistics qs'
  pub scheduled : ScheduledMore (removed_files fs c.data_files ds c.delete_files ids time) xs c.scheduled r.scheduled xs'
