-- The public calls that change tables go into any history: from each one's own statement.
use contract.Monad.{fact_mono}
use Rattle.ducklake.specs.Commits.{create_schema, create_table, insert, delete, drop_table, drop_schema}
use Rattle.ducklake.specs.Calls.{commit_at, expire_snapshots, clean_up}
use Rattle.ducklake.specs.Observed.{calls}
use Rattle.observed_calls.specs.Seen.{besides, EntersBy}
use Rattle.observed_calls.proofs.Contracts.{Fact, Ensuring, follows, enters}
use Rattle.catalog_creates.specs.contracts.create_schema.catalog_create_schema as create_schema_call
use Rattle.catalog_creates.proofs.create_schema.catalog_create_schema.Statement as create_schema_stated
use Rattle.catalog_creates.proofs.create_schema.catalog_create_schema.Met as create_schema_met
use Rattle.catalog_creates.proofs.create_schema.catalog_create_schema.Symbol as create_schema_symbol
use Rattle.catalog_creates.specs.contracts.create_table.catalog_create_table as create_table_call
use Rattle.catalog_creates.proofs.create_table.catalog_create_table.Statement as create_table_stated
use Rattle.catalog_creates.proofs.create_table.catalog_create_table.Met as create_table_met
use Rattle.catalog_creates.proofs.create_table.catalog_create_table.Symbol as create_table_symbol
use Rattle.catalog_drops.specs.contracts.drop_schema.catalog_drop_schema as drop_schema_call
use Rattle.catalog_drops.proofs.drop_schema.catalog_drop_schema.Statement as drop_schema_stated
use Rattle.catalog_drops.proofs.drop_schema.catalog_drop_schema.Met as drop_schema_met
use Rattle.catalog_drops.proofs.drop_schema.catalog_drop_schema.Symbol as drop_schema_symbol
use Rattle.catalog_drops.specs.contracts.drop_table.catalog_drop_table as drop_table_call
use Rattle.catalog_drops.proofs.drop_table.catalog_drop_table.Statement as drop_table_stated
use Rattle.catalog_drops.proofs.drop_table.catalog_drop_table.Met as drop_table_met
use Rattle.catalog_drops.proofs.drop_table.catalog_drop_table.Symbol as drop_table_symbol
use Rattle.catalog_row_changes.specs.contracts.insert.catalog_insert as insert_call
use Rattle.catalog_row_changes.proofs.insert.catalog_insert.Statement as insert_call_stated
use Rattle.catalog_row_changes.proofs.insert.catalog_insert.Met as insert_call_met
use Rattle.catalog_row_changes.proofs.insert.catalog_insert.Symbol as insert_call_symbol
use Rattle.catalog_row_changes.specs.contracts.delete.catalog_delete as delete_call
use Rattle.catalog_row_changes.proofs.delete.catalog_delete.Statement as delete_call_stated
use Rattle.catalog_row_changes.proofs.delete.catalog_delete.Met as delete_call_met
use Rattle.catalog_row_changes.proofs.delete.catalog_delete.Symbol as delete_call_symbol
use Rattle.catalog_maintenance.specs.contracts.expire.catalog_expire as expire
use Rattle.catalog_maintenance.proofs.expire.catalog_expire.Statement as expire_stated
use Rattle.catalog_maintenance.proofs.expire.catalog_expire.Met as expire_met
use Rattle.catalog_maintenance.proofs.expire.catalog_expire.Symbol as expire_symbol
use Rattle.catalog_maintenance.specs.contracts.clean_up.catalog_cleanup as cleanup
use Rattle.catalog_maintenance.proofs.clean_up.catalog_cleanup.Statement as cleanup_stated
use Rattle.catalog_maintenance.proofs.clean_up.catalog_cleanup.Met as cleanup_met
use Rattle.catalog_maintenance.proofs.clean_up.catalog_cleanup.Symbol as cleanup_symbol

-- `catalog_create_schema`
abbrev pub CreateSchemaEnters : Fact create_schema_call.ended
CreateSchemaEnters κs a r s =
    let (counts, (terms, (name, (area, end)))) = besides a in
    EntersBy (calls (commit_at terms (create_schema name.now))) counts a area r s (besides s).1.1.1.0

pub create_schema_enters : {M : Type 1} → Ensuring {M = M} create_schema_call.ended (λ 𝓤 𝓛. create_schema_call.clauses 𝓛) create_schema_symbol.code create_schema_symbol.name CreateSchemaEnters
create_schema_enters {M} =
    let met : create_schema_stated.statement M = create_schema_met.met in
    follows create_schema_call.ended (λ 𝓤 𝓛. create_schema_call.clauses 𝓛) create_schema_symbol.code create_schema_symbol.name CreateSchemaEnters (λ 𝓤 𝓛 mem run κs a g r s. fact_mono 𝓤 _ _ (λ p. enters p)) met

-- `catalog_create_table`
abbrev pub CreateTableEnters : Fact create_table_call.ended
CreateTableEnters κs a r s =
    let (counts, (terms, (schema, (name, (columns, (names, (area, end))))))) = besides a in
    EntersBy (calls (commit_at terms (create_table schema.0 name.now columns.now names.now))) counts a area r s (besides s).1.1.1.1.1.1.0

pub create_table_enters : {M : Type 1} → Ensuring {M = M} create_table_call.ended (λ 𝓤 𝓛. create_table_call.clauses 𝓛) create_table_symbol.code create_table_symbol.name CreateTableEnters
create_table_enters {M} =
    let met : create_table_stated.statement M = create_table_met.met in
    follows create_table_call.ended (λ 𝓤 𝓛. create_table_call.clauses 𝓛) create_table_symbol.code create_table_symbol.name CreateTableEnters (λ 𝓤 𝓛 mem run κs a g r s. fact_mono 𝓤 _ _ (λ p. enters p)) met

-- `catalog_drop_schema`
abbrev pub DropSchemaEnters : Fact drop_schema_call.ended
DropSchemaEnters κs a r s =
    let (counts, (terms, (schema, (area, end)))) = besides a in
    EntersBy (calls (commit_at terms (drop_schema schema.0))) counts a area r s (besides s).1.1.1.0

pub drop_schema_enters : {M : Type 1} → Ensuring {M = M} drop_schema_call.ended (λ 𝓤 𝓛. drop_schema_call.clauses 𝓛) drop_schema_symbol.code drop_schema_symbol.name DropSchemaEnters
drop_schema_enters {M} =
    let met : drop_schema_stated.statement M = drop_schema_met.met in
    follows drop_schema_call.ended (λ 𝓤 𝓛. drop_schema_call.clauses 𝓛) drop_schema_symbol.code drop_schema_symbol.name DropSchemaEnters (λ 𝓤 𝓛 mem run κs a g r s. fact_mono 𝓤 _ _ (λ p. enters p)) met

-- `catalog_drop_table`
abbrev pub DropTableEnters : Fact drop_table_call.ended
DropTableEnters κs a r s =
    let (counts, (terms, (table, (area, end)))) = besides a in
    EntersBy (calls (commit_at terms (drop_table table.0))) counts a area r s (besides s).1.1.1.0

pub drop_table_enters : {M : Type 1} → Ensuring {M = M} drop_table_call.ended (λ 𝓤 𝓛. drop_table_call.clauses 𝓛) drop_table_symbol.code drop_table_symbol.name DropTableEnters
drop_table_enters {M} =
    let met : drop_table_stated.statement M = drop_table_met.met in
    follows drop_table_call.ended (λ 𝓤 𝓛. drop_table_call.clauses 𝓛) drop_table_symbol.code drop_table_symbol.name DropTableEnters (λ 𝓤 𝓛 mem run κs a g r s. fact_mono 𝓤 _ _ (λ p. enters p)) met

-- `catalog_insert`
abbrev pub InsertEnters : Fact insert_call.ended
InsertEnters κs a r s =
    let (counts, (terms, (table, (record_count, (uuid, (statistics, (area, end))))))) = besides a in
    EntersBy (calls (commit_at terms (insert table.0 record_count uuid statistics.now))) counts a area r s (besides s).1.1.1.1.1.1.0

pub insert_enters : {M : Type 1} → Ensuring {M = M} insert_call.ended (λ 𝓤 𝓛. insert_call.clauses 𝓛) insert_call_symbol.code insert_call_symbol.name InsertEnters
insert_enters {M} =
    let met : insert_call_stated.statement M = insert_call_met.met in
    follows insert_call.ended (λ 𝓤 𝓛. insert_call.clauses 𝓛) insert_call_symbol.code insert_call_symbol.name InsertEnters (λ 𝓤 𝓛 mem run κs a g r s. fact_mono 𝓤 _ _ (λ p. enters p)) met

-- `catalog_delete`
abbrev pub DeleteEnters : Fact delete_call.ended
DeleteEnters κs a r s =
    let (counts, (terms, (data_file, (uuid, (positions, (area, end)))))) = besides a in
    EntersBy (calls (commit_at terms (delete data_file.0 uuid positions.now))) counts a area r s (besides s).1.1.1.1.1.0

pub delete_enters : {M : Type 1} → Ensuring {M = M} delete_call.ended (λ 𝓤 𝓛. delete_call.clauses 𝓛) delete_call_symbol.code delete_call_symbol.name DeleteEnters
delete_enters {M} =
    let met : delete_call_stated.statement M = delete_call_met.met in
    follows delete_call.ended (λ 𝓤 𝓛. delete_call.clauses 𝓛) delete_call_symbol.code delete_call_symbol.name DeleteEnters (λ 𝓤 𝓛 mem run κs a g r s. fact_mono 𝓤 _ _ (λ p. enters p)) met

-- `catalog_expire`
abbrev pub ExpireEnters : Fact expire.ended
ExpireEnters κs a r s =
    let (counts, (ids, (time, (area, end)))) = besides a in
    EntersBy (calls (expire_snapshots ids.now time)) counts a area r s (besides s).1.1.1.0

pub expire_enters : {M : Type 1} → Ensuring {M = M} expire.ended (λ 𝓤 𝓛. expire.clauses 𝓛) expire_symbol.code expire_symbol.name ExpireEnters
expire_enters {M} =
    let met : expire_stated.statement M = expire_met.met in
    follows expire.ended (λ 𝓤 𝓛. expire.clauses 𝓛) expire_symbol.code expire_symbol.name ExpireEnters (λ 𝓤 𝓛 mem run κs a g r s. fact_mono 𝓤 _ _ (λ p. enters p)) met

-- `catalog_cleanup`
abbrev pub CleanupEnters : Fact cleanup.ended
CleanupEnters κs a r s =
    let (counts, (t, (area, end))) = besides a in
    EntersBy (calls (clean_up t)) counts a area r s (besides s).1.1.0

pub cleanup_enters : {M : Type 1} → Ensuring {M = M} cleanup.ended (λ 𝓤 𝓛. cleanup.clauses 𝓛) cleanup_symbol.code cleanup_symbol.name CleanupEnters
cleanup_enters {M} =
    let met : cleanup_stated.statement M = cleanup_met.met in
    follows cleanup.ended (λ 𝓤 𝓛. cleanup.clauses 𝓛) cleanup_symbol.code cleanup_symbol.name CleanupEnters (λ 𝓤 𝓛 mem run κs a g r s. fact_mono 𝓤 _ _ (λ p. enters p)) met
