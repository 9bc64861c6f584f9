-- What a cleanup hands out and leaves: of the scheduled records those that are due go, so one run and one count change.
use Prim.Native.Nat.{ℕ, ◌*◌, ◌≤◌}
use mathlib.Core.Path.{◌≡◌, refl, sym, ap, ap₂, ◌∙◌}
use mathlib.Core.Bool.{Bool, true, not}
use mathlib.Core.List.{List, flat_map}
use native.Mathlib.Omega.{arith}
use lib.ListN.{length}
use Rattle.lists.specs.Lists.{range, filter}
use Rattle.lists.proofs.Members.{In}
use Rattle.lists.proofs.Counts.{count_most, filter_length}
use Rattle.lists.proofs.Writes.{flat_map_size}
use Rattle.lists.specs.Pieces.{row_pieces, Compacted}
use Rattle.layout.specs.declared.outcome.Counts.{Counts}
use Rattle.layout.specs.Fields.{scheduled_size}
use Rattle.layout.specs.Catalog.{Scheduled}
use Rattle.layout.specs.Words.{Words, lent, load, store, counts_of, fits, scheduled_at, scheduled_in}
use Rattle.layout.proofs.Room.{Within}
use Rattle.layout.proofs.RoundTrip.{store_load, counts_load}
use Rattle.call_laws.proofs.Stores.{table_run, run_compacted, scheduled_table, room_less}
use Rattle.ducklake.specs.Maintenance.{due, handed_size, handed_words, handed_out, cleanup}
use Rattle.ducklake.specs.Calls.{has_room}

-- these counts, but so many scheduled records
abbrev pub with_scheduled : Counts → ℕ → Counts
with_scheduled c n = record {
  snapshots = c.snapshots;
  schemas = c.schemas;
  tables = c.tables;
  columns = c.columns;
  data_files = c.data_files;
  delete_files = c.delete_files;
  positions = c.positions;
  statistics = c.statistics;
  scheduled = n;
}

module _ (w : Words) (c : Counts) (t : ℕ) where
  abbrev stays : Scheduled → Bool
  stays x = not (due t x)

  -- the answer, from the run
  pub handed_words_lem : flat_map handed_words (filter (due t) (scheduled_in w.scheduled c.scheduled)) ≡ handed_out (load w c) t
  unfolding handed_out load
  handed_words_lem = refl

  pub handed_length : length (handed_out (load w c) t) ≡ handed_size * length (filter (due t) (scheduled_in w.scheduled c.scheduled))
  handed_length = ap length (sym handed_words_lem) ∙ flat_map_size handed_words handed_size (λ x. refl) (filter (due t) (scheduled_in w.scheduled c.scheduled))

  module _ (h : fits w c ≡ true) where
    -- fewer records have room
    pub cleanup_room : has_room w (cleanup (load w c) t) ≡ true
    unfolding has_room
    cleanup_room = room_less w c (cleanup (load w c) t) h less
      where
        fewer : length (filter stays (load w c).scheduled) ≤ length (load w c).scheduled
        fewer = omega (arith, filter_length stays (load w c).scheduled, count_most stays (load w c).scheduled)

        less : Within (counts_of (cleanup (load w c) t)) (counts_of (load w c))
        less = unfold counts_of in unfold cleanup in let l = fewer in omega arith

    pub cleanup_words : (q : ℕ → Bool) {r : ℕ} {s : List ℕ} → ((j : ℕ) → In j (range 0 c.scheduled) → stays (scheduled_at w.scheduled j) ≡ q j)
        → Compacted (row_pieces scheduled_size) q c.scheduled w.scheduled r s
        → lent w.snapshots w.schemas w.schema_names w.tables w.table_names w.columns w.column_names w.data_files w.delete_files w.positions w.statistics s
        ≡ store w c (cleanup (load w c) t)
    unfolding store cleanup
    cleanup_words q d k =
        ap₂ (λ v s. lent v.snapshots v.schemas v.schema_names v.tables v.table_names v.columns v.column_names v.data_files v.delete_files v.positions v.statistics s)
        (sym (store_load w c h)) (run_compacted (table_run scheduled_table) w c h (cleanup (load w c) t) stays q refl d k)

    pub cleanup_counts : {n : ℕ} → n ≡ length (filter stays (scheduled_in w.scheduled c.scheduled))
        → with_scheduled c n ≡ counts_of (cleanup (load w c) t)
    unfolding counts_of load cleanup
    cleanup_counts e = ap₂ with_scheduled (sym (counts_load w c h)) e
