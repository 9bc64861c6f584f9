-- Document 01, 'Expiry and cleanup'.
use Rattle.std.specs.Prelude.{ℕ, Bool, not, ltb, eqb}
use mathlib.Core.List.{List, [], ◌∷◌, ◌++◌, map, flat_map}
use Rattle.lists.specs.Lists.{any, filter, has, sort_by}
use Rattle.layout.specs.declared.record.Uuid.{Uuid}
use Rattle.layout.specs.Catalog.{Versioned, Snapshot, Scheduled, Catalog}
use Rattle.ducklake.specs.Liveness.{live_at_some}

-- a removed file, "schedule_start the given time"
abbrev pub scheduled_file : {A : Type 0} → (A → Uuid) → ℕ → Versioned A → Scheduled
scheduled_file uuid time v = record { file = v.id; uuid = uuid v.body; start = time }

-- the records that no snapshot of ns shows
abbrev pub removed : {A : Type 0} → List Snapshot → List (Versioned A) → List (Versioned A)
removed ns vs = filter (λ v. not (live_at_some ns v)) vs

-- the snapshots that an expiry of these ids leaves
abbrev pub leaves : List ℕ → Snapshot → Bool
leaves ids n = not (has n.id ids)

abbrev pub remaining : List Snapshot → List ℕ → List Snapshot
remaining ns ids = filter (leaves ids) ns

-- "Expiry takes snapshot ids and a time. The snapshots go, and every record live at no retained snapshot, with statistics and positions of such
-- files; gaps close, order stays (..). Files removed are scheduled by ascending id, schedule_start the given time."
unfoldable pub expire : Catalog → List ℕ → ℕ → Catalog
expire C ids time =
    let ns : List Snapshot = remaining C.snapshots ids in
    record {
      snapshots = ns;
      schemas = filter (live_at_some ns) C.schemas;
      tables = filter (live_at_some ns) C.tables;
      columns = filter (live_at_some ns) C.columns;
      data_files = filter (live_at_some ns) C.data_files;
      delete_files = filter (live_at_some ns) C.delete_files;
      statistics = filter (λ x. any (λ f. eqb f.id x.data_file) (filter (live_at_some ns) C.data_files)) C.statistics;
      scheduled = C.scheduled ++ sort_by (λ x. x.file)
          (map (scheduled_file (λ f. f.uuid) time) (removed ns C.data_files) ++ map (scheduled_file (λ d. d.uuid) time) (removed ns C.delete_files));
    }

-- "each scheduled record with schedule_start < t"
abbrev pub due : ℕ → Scheduled → Bool
due t x = ltb x.start t

-- "id, UUID high and UUID low, three words"
abbrev pub handed_size : ℕ
handed_size = 3

abbrev pub handed_words : Scheduled → List ℕ
handed_words x = x.file ∷ x.uuid.high ∷ x.uuid.low ∷ []

-- "Cleanup takes t and hands out" these "of each scheduled record with schedule_start < t, in table order"
unfoldable pub handed_out : Catalog → ℕ → List ℕ
handed_out C t = flat_map handed_words (filter (due t) C.scheduled)

-- "and removes it"
unfoldable pub cleanup : Catalog → ℕ → Catalog
cleanup C t = record {
  snapshots = C.snapshots;
  schemas = C.schemas;
  tables = C.tables;
  columns = C.columns;
  data_files = C.data_files;
  delete_files = C.delete_files;
  statistics = C.statistics;
  scheduled = filter (λ x. not (due t x)) C.scheduled;
}
