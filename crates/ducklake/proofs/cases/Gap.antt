-- Soundness alone is not kept: sound tables on which an accepted delete leaves unsound ones. The data file 0 is open and its delete file 1 has ended,
-- so that the delete ends nothing and its new delete file lacks position 0. No catalogue grown from a fresh one gets there (`Chain`).
use Prim.Native.Nat.{ℕ, ◌*◌}
use mathlib.Core.Path.{◌≡◌, refl}
use mathlib.Core.List.{[], ◌∷◌}
use mathlib.Core.Bool.{true, false}
use lib.ListN.{replicate}
use Rattle.layout.specs.Fields.{snapshot_size, schema_size, table_size, column_size, data_file_size, delete_file_size, statistics_size}
use Rattle.layout.specs.Records.{uuid_of}
use Rattle.layout.specs.Catalog.{absent, Snapshot, Catalog}
use Rattle.layout.specs.Names.{name_size, padded}
use Rattle.layout.specs.Words.{Words, store, counts_of}
use Rattle.ducklake.specs.Refusals.{accepted}
use Rattle.ducklake.specs.Kinds.{created_schema, inserted_into_table, deleted_from_table}
use Rattle.ducklake.specs.Soundness.{sound}
use Rattle.ducklake.specs.Commits.{delete}
use Rattle.ducklake.specs.Calls.{commit_at, at_time, Result, perform, no_counts}
use Rattle.ducklake.proofs.cases.Names.{int64, bytes}
use Rattle.ducklake.proofs.cases.Sessions.{passes}

snapshot : ℕ → ℕ → ℕ → Snapshot
snapshot id next_file_id kind = record { id = id; time = 0; schema_version = 1; next_catalog_id = 2; next_file_id = next_file_id; kind = kind; object = 1 }

gap : Catalog
gap = record {
  snapshots = snapshot 1 1 inserted_into_table ∷ snapshot 2 2 deleted_from_table ∷ snapshot 3 2 created_schema ∷ [];
  schemas = record { id = 0; begin = 1; end = absent; body = record { name = padded (bytes "m") } } ∷ [];
  tables = record { id = 1; begin = 1; end = absent; body = record { schema = 0; next_row_id = 3; name = padded (bytes "t") } } ∷ [];
  columns = record { id = 1; begin = 1; end = absent; body = record { table = 1; order = 0; type_code = int64; nulls_allowed = 1; name = padded (bytes "c") } } ∷ [];
  data_files = record { id = 0; begin = 1; end = absent; body = record { table = 1; record_count = 3; row_id_start = 0; uuid = uuid_of 0 1 } } ∷ [];
  delete_files = record { id = 1; begin = 2; end = 3; body = record { table = 1; data_file = 0; positions = 0 ∷ []; uuid = uuid_of 0 2 } } ∷ [];
  statistics = record { data_file = 0; column = 1; null_count = 0; has_min = 0; has_max = 0; min = 0; max = 0 } ∷ [];
  scheduled = [];
}

lent : Words
lent = record {
  snapshots = replicate (snapshot_size * 4) 0;
  schemas = replicate schema_size 0;
  schema_names = replicate name_size 0;
  tables = replicate table_size 0;
  table_names = replicate name_size 0;
  columns = replicate column_size 0;
  column_names = replicate name_size 0;
  data_files = replicate data_file_size 0;
  delete_files = replicate (delete_file_size * 2) 0;
  positions = replicate 4 0;
  statistics = replicate statistics_size 0;
  scheduled = [];
}

tables : Words
tables = store lent no_counts gap

deleted : Result
deleted = perform (commit_at (at_time 0) (delete 0 (uuid_of 0 3) (1 ∷ []))) tables (counts_of gap) []

sound_before : sound tables (counts_of gap) ≡ true
unfolding snapshot gap lent tables passes
sound_before = refl

delete_accepted : deleted.number ≡ accepted
unfolding snapshot gap lent tables deleted passes
delete_accepted = refl

unsound_after : sound deleted.words deleted.counts ≡ false
unfolding snapshot gap lent tables deleted passes
unsound_after = refl
