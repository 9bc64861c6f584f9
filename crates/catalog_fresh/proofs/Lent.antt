-- The tables that Fresh is lent: the room that it needs, its records at the front of their runs, and its promise.
use Prim.Native.Nat.{ℕ}
use mathlib.Core.Path.{◌≡◌, refl, sym, ap, ap₂, ◌∙◌}
use mathlib.Core.Bool.{Bool, true, false}
use mathlib.Core.List.{List}
use native.Mathlib.Omega.{arith}
use Rattle.lists.specs.Runs.{overwrite}
use Rattle.layout.specs.declared.outcome.Counts.{Counts}
use Rattle.layout.specs.Records.{snapshot_words, schema_words}
use Rattle.layout.specs.Catalog.{snapshot_record, schema_record}
use Rattle.layout.specs.Words.{Words, store, capacity, within}
use Rattle.layout.proofs.Room.{Held, held}
use Rattle.ducklake.specs.Commits.{fresh_snapshot, fresh_name, fresh_schema, fresh_catalog}
use Rattle.ducklake.specs.Refusals.{accepted, no_room}
use Rattle.ducklake.specs.Calls.{has_room, no_counts, perform_fresh, Promise}
use Rattle.call_laws.proofs.Fresh.{fresh_counts_lem, fresh_words}
use Rattle.call_laws.proofs.Promises.{outcome, promise_fresh_refused, promise_fresh_accepted}
use Rattle.catalog_fresh.specs.Lent.{FreshLent, FreshRoom, fresh_leaves}

abbrev fresh_counts : Counts
fresh_counts = record { snapshots = 1; schemas = 1; tables = 0; columns = 0; data_files = 0; delete_files = 0; positions = 0; statistics = 0; scheduled = 0 }

abbrev pub fresh_lent : (w : Words) {room : Counts} → room ≡ capacity w → FreshLent room w.snapshots w.schemas w.schema_names
fresh_lent w e = record { words = w; snapshots = refl; schemas = refl; schema_names = refl; room = e }

pub fresh_stored : (w : Words) (time : ℕ) {ns ns' ss ss' xs xs' : List ℕ} → w.snapshots ≡ ns → w.schemas ≡ ss → w.schema_names ≡ xs
    → ns' ≡ overwrite ns 0 (snapshot_words (snapshot_record (fresh_snapshot time)))
    → ss' ≡ overwrite ss 0 (schema_words (schema_record fresh_schema))
    → xs' ≡ overwrite xs 0 fresh_name
    → fresh_leaves w ns' ss' xs' ≡ store w no_counts (fresh_catalog time)
fresh_stored w time p q r a b d = fresh_words w time (rw p a) (rw q b) (rw r d)

module _ {room : Counts} {ns ss xs : List ℕ} (l : FreshLent room ns ss xs) {b : Bool} (e : b ≡ within fresh_counts room) where
  has_room_lem : (time : ℕ) → b ≡ has_room l.words (fresh_catalog time)
  unfolding has_room
  has_room_lem time = e ∙ ap₂ within (sym (fresh_counts_lem time)) l.room

  pub fresh_relies : b ≡ true → FreshRoom ns ss xs
  fresh_relies h =
      let r = held l.words fresh_counts (ap (within fresh_counts) (sym l.room) ∙ sym e ∙ h) in
      rw (l.snapshots, l.schemas, l.schema_names) at (fits r)
    where
      fits : Held l.words fresh_counts → FreshRoom l.words.snapshots l.words.schemas l.words.schema_names
      fits r = record { snapshot = omega (arith, r.snapshots); schema = omega (arith, r.schemas); name = omega (arith, r.schema_names) }

  module _ (time : ℕ) (c : Counts) (area : List ℕ) where
    pub fresh_refused : b ≡ false → Promise (perform_fresh time l.words c area) (outcome no_room 0 0 c) (fresh_leaves l.words ns ss xs) area
    fresh_refused h = promise_fresh_refused time l.words c area (sym (has_room_lem time) ∙ h) (rw (← l.snapshots, ← l.schemas, ← l.schema_names) refl) refl

    pub fresh_done : {ns' ss' xs' : List ℕ} → b ≡ true
        → ((w : Words) → w.snapshots ≡ ns → w.schemas ≡ ss → w.schema_names ≡ xs → fresh_leaves w ns' ss' xs' ≡ store w no_counts (fresh_catalog time))
        → Promise (perform_fresh time l.words c area) (outcome accepted 0 0 fresh_counts) (fresh_leaves l.words ns' ss' xs') area
    fresh_done h d =
        promise_fresh_accepted time l.words c area (sym (has_room_lem time) ∙ h) (sym (fresh_counts_lem time)) (d l.words l.snapshots l.schemas l.schema_names) refl
