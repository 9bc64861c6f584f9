-- What a commit's snapshot comes to in the tables of these words, where it was appended to their snapshots.
use Prim.Native.Nat.{ℕ, ◌*◌}
use mathlib.Core.Path.{◌≡◌, sym, ap, ap₂, ◌∙◌}
use mathlib.Core.List.{List}
use Rattle.lists.specs.Runs.{overwrite}
use Rattle.layout.specs.Fields.{snapshot_size}
use Rattle.layout.specs.Records.{snapshot_words}
use Rattle.layout.specs.Catalog.{Snapshot, snapshot_record}
use Rattle.layout.specs.Words.{Words, snapshots_in}
use Rattle.layout.specs.declared.outcome.Counts.{Counts}
use Rattle.ducklake.specs.Liveness.{latest_of}
use Rattle.call_laws.specs.Writes.{end_records}
use Rattle.commits.specs.Written.{SnapshotAppended}

-- the latest of n snapshots
abbrev pub latest_in : List ℕ → ℕ → Snapshot
latest_in run n = latest_of (snapshots_in run n)

pub latest_as : {run v : List ℕ} (n : ℕ) → run ≡ v → latest_in v n ≡ latest_in run n
latest_as n p = ap (λ r. latest_in r n) (sym p)

-- records that end at the id that was given, in a run that is said otherwise
pub ended_as : (size key end k m : ℕ) {run v v' : List ℕ} {i j : ℕ} → run ≡ v → i ≡ j → v' ≡ end_records size key end k i v m → v' ≡ end_records size key end k j run m
ended_as size key end k m p e q = q ∙ ap₂ (λ r n. end_records size key end k n r m) (sym p) e

module _ (w : Words) (c : Counts) {ns ns' : List ℕ} (p : w.snapshots ≡ ns) (next : Snapshot → Snapshot) {k : ℕ}
    (S : SnapshotAppended ns c.snapshots (next (latest_in ns c.snapshots)) k ns') where
  -- the snapshot after the latest, and its id
  pub appended_as : ns' ≡ overwrite w.snapshots (snapshot_size * c.snapshots) (snapshot_words (snapshot_record (next (latest_in w.snapshots c.snapshots))))
  appended_as = S.snapshots ∙ ap₂ (λ run s. overwrite run (snapshot_size * c.snapshots) (snapshot_words (snapshot_record (next s)))) (sym p) (latest_as c.snapshots p)

  pub id_as : k ≡ (next (latest_in w.snapshots c.snapshots)).id
  id_as = S.id ∙ ap (λ s. (next s).id) (latest_as c.snapshots p)
