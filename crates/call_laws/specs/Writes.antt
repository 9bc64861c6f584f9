-- What is written into the runs: records changed in their places, and records behind those in use.
use Rattle.std.specs.Prelude.{ℕ, ◌+◌, ◌*◌}
use mathlib.Core.List.{List, flat_map}
use Rattle.lists.specs.Runs.{Layout, overwrite, set_where, add_where, each_record}
use Rattle.layout.specs.declared.outcome.Counts.{Counts}
use Rattle.layout.specs.Catalog.{absent, Versioned}
use Rattle.layout.specs.Names.{name_size}

-- the open records of a run of n whose word `key` is k end at s
abbrev pub end_records : (size key end k s : ℕ) → List ℕ → ℕ → List ℕ
end_records size key end k s run n = each_record size (set_where key end k absent s) run n

-- in the records of a run of n whose word `key` is k, the word `at` grows by m
abbrev pub grow_records : (size key at k m : ℕ) → List ℕ → ℕ → List ℕ
grow_records size key at k m run n = each_record size (add_where key at k m) run n

-- "New records begin at the new snapshot, end ABSENT"
abbrev pub opened : {A : Type 0} → ℕ → ℕ → A → Versioned A
opened n id body = record { id = id; begin = n; end = absent; body = body }

-- records behind the first n of a run
abbrev pub extend_table : {A : Type 0} → Layout A → List ℕ → ℕ → List A → List ℕ
extend_table L run n rs = overwrite run (L.size * n) (flat_map L.words rs)

-- names behind the first n places of a run
abbrev pub extend_names : {A : Type 0} → (A → List ℕ) → List ℕ → ℕ → List A → List ℕ
extend_names name run n xs = overwrite run (name_size * n) (flat_map name xs)

-- the counts together
unfoldable pub add_counts : Counts → Counts → Counts
add_counts a b = record {
  snapshots = a.snapshots + b.snapshots;
  schemas = a.schemas + b.schemas;
  tables = a.tables + b.tables;
  columns = a.columns + b.columns;
  data_files = a.data_files + b.data_files;
  delete_files = a.delete_files + b.delete_files;
  positions = a.positions + b.positions;
  statistics = a.statistics + b.statistics;
  scheduled = a.scheduled + b.scheduled;
}
