-- The numbers of 'create table' against the definition's: those of the snapshot after the latest, whose object is the new table.
use Prim.Native.Nat.{ℕ}
use mathlib.Core.Path.{◌≡◌, refl, ◌∙◌}
use mathlib.Core.Bool.{Bool, true}
use mathlib.Core.List.{List}
use Rattle.layout.specs.declared.outcome.Counts.{Counts}
use Rattle.layout.specs.Catalog.{Snapshot}
use Rattle.layout.specs.Words.{Words, load, snapshots_in}
use Rattle.ducklake.specs.Kinds.{created_table}
use Rattle.ducklake.specs.Liveness.{latest_of}
use Rattle.ducklake.specs.Soundness.{snapshot_in_range, sound}
use Rattle.ducklake.specs.Commits.{create_table, change_of, numbers_fit, following}
use Rattle.commits.proofs.Judged.{numbers_as}

pub table_numbers_as : (w : Words) (c : Counts) {ns : List ℕ} → w.snapshots ≡ ns → {l : Snapshot} → l ≡ latest_of (snapshots_in ns c.snapshots) → sound w c ≡ true
    → (time schema : ℕ) (name words names : List ℕ) {b : Bool} → b ≡ snapshot_in_range (following l time created_table l.next_catalog_id 1 0)
    → b ≡ numbers_fit (load w c) (change_of (load w c) time (create_table schema name words names))
unfolding load change_of
table_numbers_as w c p e s time schema name words names h =
    numbers_as w c p e (change_of (load w c) time (create_table schema name words names)) 1 0 s (λ t. refl) refl refl (h ∙ rw (e, ← p) refl)
