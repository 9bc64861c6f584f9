-- The public readings go into any history: from each one's own statement.
use contract.Monad.{fact_mono}
use Rattle.ducklake.specs.Readings.{Query}
use Rattle.ducklake.specs.Calls.{query_at, by_time}
use Rattle.ducklake.specs.Observed.{reads, looks_up}
use Rattle.observed_calls.specs.Seen.{besides, EntersByReading}
use Rattle.observed_calls.proofs.Contracts.{Fact, Ensuring, follows, enters}
use Rattle.catalog_readings.specs.contracts.schemas.catalog_list_schemas as list_schemas_call
use Rattle.catalog_readings.proofs.schemas.catalog_list_schemas.Statement as list_schemas_stated
use Rattle.catalog_readings.proofs.schemas.catalog_list_schemas.Met as list_schemas_met
use Rattle.catalog_readings.proofs.schemas.catalog_list_schemas.Symbol as list_schemas_symbol
use Rattle.catalog_readings.specs.contracts.tables.catalog_list_tables as list_tables_call
use Rattle.catalog_readings.proofs.tables.catalog_list_tables.Statement as list_tables_stated
use Rattle.catalog_readings.proofs.tables.catalog_list_tables.Met as list_tables_met
use Rattle.catalog_readings.proofs.tables.catalog_list_tables.Symbol as list_tables_symbol
use Rattle.catalog_readings.specs.contracts.columns.catalog_list_columns as list_columns_call
use Rattle.catalog_readings.proofs.columns.catalog_list_columns.Statement as list_columns_stated
use Rattle.catalog_readings.proofs.columns.catalog_list_columns.Met as list_columns_met
use Rattle.catalog_readings.proofs.columns.catalog_list_columns.Symbol as list_columns_symbol
use Rattle.catalog_readings.specs.contracts.named.catalog_table_by_name as table_by_name_call
use Rattle.catalog_readings.proofs.named.catalog_table_by_name.Statement as table_by_name_stated
use Rattle.catalog_readings.proofs.named.catalog_table_by_name.Met as table_by_name_met
use Rattle.catalog_readings.proofs.named.catalog_table_by_name.Symbol as table_by_name_symbol
use Rattle.catalog_readings.specs.contracts.files.catalog_list_files as list_files_call
use Rattle.catalog_readings.proofs.files.catalog_list_files.Statement as list_files_stated
use Rattle.catalog_readings.proofs.files.catalog_list_files.Met as list_files_met
use Rattle.catalog_readings.proofs.files.catalog_list_files.Symbol as list_files_symbol
use Rattle.catalog_readings.specs.contracts.filtered.catalog_list_filtered_files as list_filtered_files_call
use Rattle.catalog_readings.proofs.filtered.catalog_list_filtered_files.Statement as list_filtered_files_stated
use Rattle.catalog_readings.proofs.filtered.catalog_list_filtered_files.Met as list_filtered_files_met
use Rattle.catalog_readings.proofs.filtered.catalog_list_filtered_files.Symbol as list_filtered_files_symbol
use Rattle.catalog_readings.specs.contracts.rows.catalog_list_rows as list_rows_call
use Rattle.catalog_readings.proofs.rows.catalog_list_rows.Statement as list_rows_stated
use Rattle.catalog_readings.proofs.rows.catalog_list_rows.Met as list_rows_met
use Rattle.catalog_readings.proofs.rows.catalog_list_rows.Symbol as list_rows_symbol
use Rattle.catalog_readings.specs.contracts.time.catalog_snapshot_by_time as snapshot_by_time_call
use Rattle.catalog_readings.proofs.time.catalog_snapshot_by_time.Statement as snapshot_by_time_stated
use Rattle.catalog_readings.proofs.time.catalog_snapshot_by_time.Met as snapshot_by_time_met
use Rattle.catalog_readings.proofs.time.catalog_snapshot_by_time.Symbol as snapshot_by_time_symbol
use Rattle.catalog_readings.specs.contracts.file.catalog_copy_file as copy_file_call
use Rattle.catalog_readings.proofs.file.catalog_copy_file.Statement as copy_file_stated
use Rattle.catalog_readings.proofs.file.catalog_copy_file.Met as copy_file_met
use Rattle.catalog_readings.proofs.file.catalog_copy_file.Symbol as copy_file_symbol

-- `catalog_list_schemas`
abbrev pub ListSchemasEnters : Fact list_schemas_call.ended
ListSchemasEnters κs a r s =
    let (counts, (snapshot, (area, end))) = besides a in
    EntersByReading (reads (query_at snapshot.0 Query.schemas)) counts a area r s (besides s).1.1.0

pub list_schemas_enters : {M : Type 1} → Ensuring {M = M} list_schemas_call.ended (λ 𝓤 𝓛. list_schemas_call.clauses 𝓛) list_schemas_symbol.code list_schemas_symbol.name ListSchemasEnters
list_schemas_enters {M} =
    let met : list_schemas_stated.statement M = list_schemas_met.met in
    follows list_schemas_call.ended (λ 𝓤 𝓛. list_schemas_call.clauses 𝓛) list_schemas_symbol.code list_schemas_symbol.name ListSchemasEnters (λ 𝓤 𝓛 mem run κs a g r s. fact_mono 𝓤 _ _ (λ p. enters p)) met

-- `catalog_list_tables`
abbrev pub ListTablesEnters : Fact list_tables_call.ended
ListTablesEnters κs a r s =
    let (counts, (snapshot, (schema, (area, end)))) = besides a in
    EntersByReading (reads (query_at snapshot.0 (Query.tables schema.0))) counts a area r s (besides s).1.1.1.0

pub list_tables_enters : {M : Type 1} → Ensuring {M = M} list_tables_call.ended (λ 𝓤 𝓛. list_tables_call.clauses 𝓛) list_tables_symbol.code list_tables_symbol.name ListTablesEnters
list_tables_enters {M} =
    let met : list_tables_stated.statement M = list_tables_met.met in
    follows list_tables_call.ended (λ 𝓤 𝓛. list_tables_call.clauses 𝓛) list_tables_symbol.code list_tables_symbol.name ListTablesEnters (λ 𝓤 𝓛 mem run κs a g r s. fact_mono 𝓤 _ _ (λ p. enters p)) met

-- `catalog_list_columns`
abbrev pub ListColumnsEnters : Fact list_columns_call.ended
ListColumnsEnters κs a r s =
    let (counts, (snapshot, (table, (area, end)))) = besides a in
    EntersByReading (reads (query_at snapshot.0 (Query.columns table.0))) counts a area r s (besides s).1.1.1.0

pub list_columns_enters : {M : Type 1} → Ensuring {M = M} list_columns_call.ended (λ 𝓤 𝓛. list_columns_call.clauses 𝓛) list_columns_symbol.code list_columns_symbol.name ListColumnsEnters
list_columns_enters {M} =
    let met : list_columns_stated.statement M = list_columns_met.met in
    follows list_columns_call.ended (λ 𝓤 𝓛. list_columns_call.clauses 𝓛) list_columns_symbol.code list_columns_symbol.name ListColumnsEnters (λ 𝓤 𝓛 mem run κs a g r s. fact_mono 𝓤 _ _ (λ p. enters p)) met

-- `catalog_table_by_name`
abbrev pub TableByNameEnters : Fact table_by_name_call.ended
TableByNameEnters κs a r s =
    let (counts, (snapshot, (schema, (name, (area, end))))) = besides a in
    EntersByReading (reads (query_at snapshot.0 (Query.table_named schema.0 name.now))) counts a area r s (besides s).1.1.1.1.0

pub table_by_name_enters : {M : Type 1} → Ensuring {M = M} table_by_name_call.ended (λ 𝓤 𝓛. table_by_name_call.clauses 𝓛) table_by_name_symbol.code table_by_name_symbol.name TableByNameEnters
table_by_name_enters {M} =
    let met : table_by_name_stated.statement M = table_by_name_met.met in
    follows table_by_name_call.ended (λ 𝓤 𝓛. table_by_name_call.clauses 𝓛) table_by_name_symbol.code table_by_name_symbol.name TableByNameEnters (λ 𝓤 𝓛 mem run κs a g r s. fact_mono 𝓤 _ _ (λ p. enters p)) met

-- `catalog_list_files`
abbrev pub ListFilesEnters : Fact list_files_call.ended
ListFilesEnters κs a r s =
    let (counts, (snapshot, (table, (area, end)))) = besides a in
    EntersByReading (reads (query_at snapshot.0 (Query.files table.0))) counts a area r s (besides s).1.1.1.0

pub list_files_enters : {M : Type 1} → Ensuring {M = M} list_files_call.ended (λ 𝓤 𝓛. list_files_call.clauses 𝓛) list_files_symbol.code list_files_symbol.name ListFilesEnters
list_files_enters {M} =
    let met : list_files_stated.statement M = list_files_met.met in
    follows list_files_call.ended (λ 𝓤 𝓛. list_files_call.clauses 𝓛) list_files_symbol.code list_files_symbol.name ListFilesEnters (λ 𝓤 𝓛 mem run κs a g r s. fact_mono 𝓤 _ _ (λ p. enters p)) met

-- `catalog_list_filtered_files`
abbrev pub ListFilteredFilesEnters : Fact list_filtered_files_call.ended
ListFilteredFilesEnters κs a r s =
    let (counts, (snapshot, (table, (column, (scalar, (area, end)))))) = besides a in
    EntersByReading (reads (query_at snapshot.0 (Query.filtered_files table.0 column scalar))) counts a area r s (besides s).1.1.1.1.1.0

pub list_filtered_files_enters : {M : Type 1} → Ensuring {M = M} list_filtered_files_call.ended (λ 𝓤 𝓛. list_filtered_files_call.clauses 𝓛) list_filtered_files_symbol.code list_filtered_files_symbol.name ListFilteredFilesEnters
list_filtered_files_enters {M} =
    let met : list_filtered_files_stated.statement M = list_filtered_files_met.met in
    follows list_filtered_files_call.ended (λ 𝓤 𝓛. list_filtered_files_call.clauses 𝓛) list_filtered_files_symbol.code list_filtered_files_symbol.name ListFilteredFilesEnters (λ 𝓤 𝓛 mem run κs a g r s. fact_mono 𝓤 _ _ (λ p. enters p)) met

-- `catalog_list_rows`
abbrev pub ListRowsEnters : Fact list_rows_call.ended
ListRowsEnters κs a r s =
    let (counts, (snapshot, (table, (area, end)))) = besides a in
    EntersByReading (reads (query_at snapshot.0 (Query.rows table.0))) counts a area r s (besides s).1.1.1.0

pub list_rows_enters : {M : Type 1} → Ensuring {M = M} list_rows_call.ended (λ 𝓤 𝓛. list_rows_call.clauses 𝓛) list_rows_symbol.code list_rows_symbol.name ListRowsEnters
list_rows_enters {M} =
    let met : list_rows_stated.statement M = list_rows_met.met in
    follows list_rows_call.ended (λ 𝓤 𝓛. list_rows_call.clauses 𝓛) list_rows_symbol.code list_rows_symbol.name ListRowsEnters (λ 𝓤 𝓛 mem run κs a g r s. fact_mono 𝓤 _ _ (λ p. enters p)) met

-- `catalog_snapshot_by_time`
abbrev pub SnapshotByTimeEnters : Fact snapshot_by_time_call.ended
SnapshotByTimeEnters κs a r s =
    let (counts, (t, (area, end))) = besides a in
    EntersByReading (reads (by_time t)) counts a area r s (besides s).1.1.0

pub snapshot_by_time_enters : {M : Type 1} → Ensuring {M = M} snapshot_by_time_call.ended (λ 𝓤 𝓛. snapshot_by_time_call.clauses 𝓛) snapshot_by_time_symbol.code snapshot_by_time_symbol.name SnapshotByTimeEnters
snapshot_by_time_enters {M} =
    let met : snapshot_by_time_stated.statement M = snapshot_by_time_met.met in
    follows snapshot_by_time_call.ended (λ 𝓤 𝓛. snapshot_by_time_call.clauses 𝓛) snapshot_by_time_symbol.code snapshot_by_time_symbol.name SnapshotByTimeEnters (λ 𝓤 𝓛 mem run κs a g r s. fact_mono 𝓤 _ _ (λ p. enters p)) met

-- `catalog_copy_file`
abbrev pub CopyFileEnters : Fact copy_file_call.ended
CopyFileEnters κs a r s =
    let (counts, (id, (area, end))) = besides a in
    EntersByReading (looks_up id.0) counts a area r s (besides s).1.1.0

pub copy_file_enters : {M : Type 1} → Ensuring {M = M} copy_file_call.ended (λ 𝓤 𝓛. copy_file_call.clauses 𝓛) copy_file_symbol.code copy_file_symbol.name CopyFileEnters
copy_file_enters {M} =
    let met : copy_file_stated.statement M = copy_file_met.met in
    follows copy_file_call.ended (λ 𝓤 𝓛. copy_file_call.clauses 𝓛) copy_file_symbol.code copy_file_symbol.name CopyFileEnters (λ 𝓤 𝓛 mem run κs a g r s. fact_mono 𝓤 _ _ (λ p. enters p)) met
