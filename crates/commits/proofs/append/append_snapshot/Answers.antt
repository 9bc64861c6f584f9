-- `append_snapshot` meets its contract: what is written is the snapshot after the latest.
use Prim.Native.Nat.{ℕ, ◌*◌}
use mathlib.Core.Path.{◌≡◌, ap, ◌∙◌}
use mathlib.Core.List.{List}
use Rattle.lists.specs.Runs.{overwrite}
use Rattle.layout.specs.declared.record.SnapshotRecord.{SnapshotRecord}
use Rattle.layout.specs.Fields.{snapshot_size}
use Rattle.layout.specs.Records.{snapshot_words}
use Rattle.layout.specs.Catalog.{Snapshot, snapshot_of, snapshot_record}
use Rattle.ducklake.specs.Commits.{following}
use Rattle.commits.specs.Written.{SnapshotAppended}
use Rattle.commits.proofs.Room.{can_follow}
use Rattle.commits.proofs.append.append_snapshot.Goals as goal

appended : (n a b : ℕ) {run run' : List ℕ} {time kind object : ℕ} {l : Snapshot} (r s : SnapshotRecord) → snapshot_of r ≡ l → snapshot_of s ≡ following (snapshot_of r) time kind object a b
    → run' ≡ overwrite run (snapshot_size * n) (snapshot_words s) → SnapshotAppended run n (following l time kind object a b) s.id.0 run'
appended n a b {run} {time = time} {kind} {object} {l} r s e f p =
    let g : snapshot_of s ≡ following l time kind object a b = f ∙ ap (λ (x : Snapshot). following x time kind object a b) e in
    record {
      id = ap (λ (x : Snapshot). x.id) g;
      snapshots = p ∙ ap (λ (x : Snapshot). overwrite run (snapshot_size * n) (snapshot_words (snapshot_record x))) g;
    }

pub next_snapshot-next-requires : goal.next_snapshot-next-requires
next_snapshot-next-requires c =
    let p = c.requires in
    can_follow p.latest c.latest_snapshot-latest.ensures p.few_catalog_ids p.few_file_ids

pub returns : goal.returns
returns c =
    let a = c.args in
    appended a.n a.catalog_ids a.file_ids _ _ c.latest_snapshot-latest.ensures c.next_snapshot-next.ensures c.write_snapshot.ensures
