-- The numbers that 'create schema' moves on to, and what its writes come to: the runs of any words that fit become those of its effect.
use Prim.Native.Nat.{ℕ, ◌*◌}
use mathlib.Core.Path.{◌≡◌, refl, sym, ap, ap₂, ◌∙◌}
use mathlib.Core.Bool.{Bool, true}
use mathlib.Core.List.{List}
use Rattle.lists.specs.Runs.{overwrite}
use Rattle.layout.specs.declared.outcome.Counts.{Counts}
use Rattle.layout.specs.declared.outcome.Terms.{Terms}
use Rattle.layout.specs.Fields.{schema_size}
use Rattle.layout.specs.Records.{schema_words}
use Rattle.layout.specs.Catalog.{Snapshot, schema_record}
use Rattle.layout.specs.Names.{name_size, padded}
use Rattle.layout.specs.Words.{Words, load, store, fits}
use Rattle.ducklake.specs.Kinds.{created_schema}
use Rattle.ducklake.specs.Soundness.{snapshot_in_range, sound}
use Rattle.ducklake.specs.Commits.{create_schema, change_of, numbers_fit, following}
use Rattle.ducklake.specs.Calls.{commit_at, effect}
use Rattle.call_laws.specs.Writes.{opened}
use Rattle.call_laws.proofs.CommitWords.{create_schema_words}
use Rattle.commits.specs.Written.{SnapshotAppended, NamedAppended}
use Rattle.commits.proofs.Judged.{numbers_as}
use Rattle.commits.proofs.Effects.{latest_in, latest_as, appended_as, id_as}
use Rattle.schema_creation.specs.Lent.{create_schema_leaves}

pub create_schema_numbers : (w : Words) (c : Counts) {ns : List ℕ} → w.snapshots ≡ ns → {l : Snapshot} → l ≡ latest_in ns c.snapshots → (time : ℕ) (name : List ℕ) {b : Bool} → sound w c ≡ true
    → b ≡ snapshot_in_range (following l time created_schema l.next_catalog_id 1 0) → b ≡ numbers_fit (load w c) (change_of (load w c) time (create_schema name))
unfolding change_of load
create_schema_numbers w c p e time name s h =
    numbers_as w c p e (change_of (load w c) time (create_schema name)) 1 0 s (λ t. refl) refl refl (h ∙ rw (e, ← p) refl)

pub create_schema_stored : (w : Words) (c : Counts) → fits w c ≡ true → (terms : Terms) (name : List ℕ) {k : Snapshot} {n : ℕ} {ns ns' ss ss' xs xs' : List ℕ}
    → w.snapshots ≡ ns → w.schemas ≡ ss → w.schema_names ≡ xs → k ≡ latest_in ns c.snapshots
    → SnapshotAppended ns c.snapshots (following (latest_in ns c.snapshots) terms.time created_schema k.next_catalog_id 1 0) n ns'
    → NamedAppended schema_size (schema_words (schema_record (opened n k.next_catalog_id (record { name = padded name })))) (padded name) ss xs c.schemas ss' xs'
    → create_schema_leaves w ns' ss' xs' ≡ store w c (effect (load w c) (commit_at terms (create_schema name)))
unfolding effect
create_schema_stored w c h terms name {k} {n} {ns} {ns'} p q r e S N =
    create_schema_words w c h terms.time name (appended_as w c p next T)
    (N.records ∙ (ap (λ run. overwrite run (schema_size * c.schemas) (new n k.next_catalog_id)) (sym q)
    ∙ ap₂ (λ i j. overwrite w.schemas (schema_size * c.schemas) (new i j)) (id_as w c p next T) (ap (λ s. s.next_catalog_id) (e ∙ latest_as c.snapshots p))))
    (N.names ∙ ap (λ run. overwrite run (name_size * c.schemas) (padded name)) (sym r))
  where
    next : Snapshot → Snapshot
    next s = following s terms.time created_schema s.next_catalog_id 1 0

    new : ℕ → ℕ → List ℕ
    new i j = schema_words (schema_record (opened i j (record { name = padded name })))

    T : SnapshotAppended ns c.snapshots (next (latest_in ns c.snapshots)) n ns'
    T = rw e at S
