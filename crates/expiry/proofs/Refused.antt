-- An expiry's tests against the definition's: what was looked at in the runs, in the tables of these words; and the files that go, counted by their places.
use Prim.Native.Nat.{ℕ, ◌+◌, ◌≤◌}
use mathlib.Core.Path.{◌≡◌, refl, sym, ap, ap₂, ◌∙◌}
use mathlib.Core.Bool.{Bool, true, not}
use mathlib.Core.List.{List}
use native.Mathlib.Omega.{arith}
use lib.Dec.{leb}
use lib.ListN.{length}
use Rattle.lists.specs.Lists.{range, all, has, filter}
use Rattle.lists.proofs.Counts.{count_most, filter_length}
use Rattle.lists.proofs.Loops.{length-range}
use Rattle.layout.specs.declared.outcome.Counts.{Counts}
use Rattle.layout.specs.Catalog.{Snapshot}
use Rattle.layout.specs.Words.{Words, load, snapshots_in}
use Rattle.ducklake.specs.Liveness.{retained, latest_of, latest_id}
use Rattle.ducklake.specs.Soundness.{sound}
use Rattle.ducklake.specs.Calls.{expire_snapshots, has_room, effect}
use Rattle.call_laws.proofs.Expiry.{scheduled_length, expire_room}
use Rattle.call_laws.proofs.Refusals.{sound_fits}
use Rattle.refusals.specs.declared.checked.Checked.{Checked}
use Rattle.refusals.specs.Checked.{checked_of}
use Rattle.expiry.specs.Remaining.{ids_left}
use Rattle.expiry.specs.Removed.{data_file_goes, delete_file_goes, files_removed}
use Rattle.expiry.proofs.Retained.{data_files_removed, delete_files_removed}

pub places_most : (p : ℕ → Bool) (n : ℕ) {r : ℕ} → r ≡ length (filter p (range 0 n)) → r ≤ n
places_most p n e = omega (arith, e, filter_length p (range 0 n), count_most p (range 0 n), length-range 0 n)

module _ (w : Words) (c : Counts) (ids : List ℕ) where
  module _ {ns : List ℕ} (p : w.snapshots ≡ ns) where
    -- 5
    pub retained_as : {b : Bool} → b ≡ all (retained (snapshots_in ns c.snapshots)) ids → b ≡ all (retained (load w c).snapshots) ids
    unfolding load
    retained_as h = h ∙ rw (← p) refl

    -- 19
    pub latest_as : {l : Snapshot} {b : Bool} → l ≡ latest_of (snapshots_in ns c.snapshots) → b ≡ not (has l.id ids) → b ≡ not (has (latest_id (load w c)) ids)
    unfolding load
    latest_as e h = h ∙ rw (e, ← p) refl

    -- the files that go, counted by their places
    pub files_removed_lem : {fs ds left : List ℕ} {f d : ℕ} → w.data_files ≡ fs → w.delete_files ≡ ds → left ≡ ids_left ns c.snapshots ids
        → f ≡ length (filter (data_file_goes fs left) (range 0 c.data_files))
        → d ≡ length (filter (delete_file_goes ds left) (range 0 c.delete_files))
        → f + d ≡ files_removed (load w c) ids
    unfolding files_removed load
    files_removed_lem {left = left} q r L a b =
        let l : left ≡ ids_left w.snapshots c.snapshots ids = rw p L in
        ap₂ (λ (x y : ℕ). x + y) (data_files_removed w c ids 0 l (rw q a)) (delete_files_removed w c ids 0 l (rw r b))

  -- 2: room for them is all that an expiry needs
  pub scheduled_as : {checked : Checked} (time : ℕ) {k : ℕ} {b : Bool} → checked ≡ checked_of w c → sound w c ≡ true → k ≡ files_removed (load w c) ids
      → b ≡ leb (c.scheduled + k) checked.room.scheduled → b ≡ has_room w (effect (load w c) (expire_snapshots ids time))
  unfolding files_removed load effect
  scheduled_as time {k} e s n h =
      h ∙ (ap (λ x. leb (c.scheduled + k) x.room.scheduled) e ∙ expire_room w c ids time (sound_fits w c s) (n ∙ sym (scheduled_length w c ids time)))
