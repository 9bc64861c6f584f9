-- What sound tables give an expiry: snapshots and files found by id, records with their lives, what lies beside them.
use Prim.Native.Nat.{ℕ}
use mathlib.Core.Path.{◌≡◌}
use mathlib.Core.Bool.{true}
use mathlib.Core.List.{List}
use native.Mathlib.Omega.{arith}
use lib.Dec.{ltb}
use Rattle.lists.specs.Lists.{non_empty, chained}
use Rattle.lists.proofs.Tests.{both}
use Rattle.layout.specs.declared.outcome.Counts.{Counts}
use Rattle.layout.specs.Fields.{schema_size, schema_begin_word, table_size, table_begin_word, column_size, column_begin_word, data_file_size, data_file_begin_word, delete_file_size, delete_file_begin_word}
use Rattle.layout.specs.Words.{Words}
use Rattle.ducklake.specs.Arguments.{expiry_list_fits}
use Rattle.call_laws.proofs.Ready.{Ready}
use Rattle.lookup.proofs.Findable.{findable}
use Rattle.expiry.specs.Remaining.{Expirable, Versions}
use Rattle.expiry.specs.Removed.{ExpiryChecked, Files}
use Rattle.expiry.specs.Stayed.{NamedVersions, Located, StatisticsOfFiles}

-- a list that passes 18 ascends
pub list_ascends : (ids : List ℕ) → expiry_list_fits ids ≡ true → chained ltb ids ≡ true
unfolding expiry_list_fits
list_ascends ids h = (both (non_empty ids) (chained ltb ids) h).1

module _ {w : Words} {c : Counts} (R : Ready w c) where
  pub expiry_checked : ExpiryChecked w.snapshots w.data_files w.delete_files c
  expiry_checked = record {
    snapshots = (findable R).snapshots;
    some = R.latest.some;
    few_snapshots = omega (arith, R.few.snapshots);
    data_files = R.held.data_files;
    few_data_files = R.held.data_files_most;
    delete_files = R.held.delete_files;
    few_delete_files = R.held.delete_files_most;
  }

  pub expirable : (ids : List ℕ) → expiry_list_fits ids ≡ true → Expirable w.snapshots c.snapshots ids
  expirable ids h = record { by_id = (findable R).snapshots; few = omega (arith, R.few.snapshots); ascending = list_ascends ids h }

  pub schema_versions : NamedVersions schema_size schema_begin_word w.schemas w.schema_names c.schemas
  schema_versions = record { versions = record { held = R.held.schemas; inside = omega arith; few = omega (arith, R.few.schemas) }; names_held = R.held.schema_names }

  pub table_versions : NamedVersions table_size table_begin_word w.tables w.table_names c.tables
  table_versions = record { versions = record { held = R.held.tables; inside = omega arith; few = omega (arith, R.few.tables) }; names_held = R.held.table_names }

  pub column_versions : NamedVersions column_size column_begin_word w.columns w.column_names c.columns
  column_versions = record { versions = record { held = R.held.columns; inside = omega arith; few = omega (arith, R.few.columns) }; names_held = R.held.column_names }

  pub data_file_versions_lem : Versions data_file_size data_file_begin_word w.data_files c.data_files
  data_file_versions_lem = record { held = R.held.data_files; inside = omega arith; few = R.held.data_files_most }

  pub delete_file_versions_lem : Versions delete_file_size delete_file_begin_word w.delete_files c.delete_files
  delete_file_versions_lem = record { held = R.held.delete_files; inside = omega arith; few = R.held.delete_files_most }

  pub files : Files w.data_files c.data_files w.delete_files c.delete_files
  files = record { data_files_by_id = (findable R).data_files; delete_files_by_id = (findable R).delete_files; data_file_versions = data_file_versions_lem; delete_file_versions = delete_file_versions_lem }

  pub located : Located w.delete_files w.positions c.delete_files
  located = record { versions = delete_file_versions_lem; positions_held = omega (arith, R.added, R.held.positions) }

  pub statistics_of_files : StatisticsOfFiles w.statistics c.statistics w.data_files c.data_files
  statistics_of_files = record { held = R.held.statistics; few = omega (arith, R.few.statistics); files = record { by_id = (findable R).data_files; versions = data_file_versions_lem } }
