-- What the writes of 'create table' come to: where they are as these equations say, the runs of any words that fit become those of its effect.
use Prim.Native.Nat.{ℕ}
use mathlib.Core.Path.{◌≡◌}
use mathlib.Core.Bool.{true}
use mathlib.Core.List.{List}
use Rattle.layout.specs.declared.outcome.Counts.{Counts}
use Rattle.layout.specs.declared.outcome.Terms.{Terms}
use Rattle.layout.specs.Fields.{table_size}
use Rattle.layout.specs.Records.{table_words}
use Rattle.layout.specs.Catalog.{Snapshot, table_record}
use Rattle.layout.specs.Names.{padded}
use Rattle.layout.specs.Words.{Words, load, store, fits}
use Rattle.ducklake.specs.Kinds.{created_table}
use Rattle.ducklake.specs.Commits.{create_table, new_table, following}
use Rattle.ducklake.specs.Calls.{commit_at, effect}
use Rattle.call_laws.specs.Writes.{opened}
use Rattle.call_laws.proofs.CommitWords.{create_table_words}
use Rattle.commits.specs.Written.{SnapshotAppended, NamedAppended}
use Rattle.commits.proofs.Effects.{latest_in}
use Rattle.table_creation.specs.Appended.{ColumnsAppended}
use Rattle.table_creation.specs.Lent.{create_table_leaves}

pub create_table_stored : (w : Words) (c : Counts) → fits w c ≡ true → (terms : Terms) (schema : ℕ) (name words names : List ℕ)
    {l : Snapshot} {n : ℕ} {ns ns' ts ts' tn tn' cs cs' cn cn' : List ℕ}
    → w.snapshots ≡ ns → w.tables ≡ ts → w.table_names ≡ tn → w.columns ≡ cs → w.column_names ≡ cn → l ≡ latest_in ns c.snapshots
    → SnapshotAppended ns c.snapshots (following (latest_in ns c.snapshots) terms.time created_table l.next_catalog_id 1 0) n ns'
    → NamedAppended table_size (table_words (table_record (opened n l.next_catalog_id (new_table schema name)))) (padded name) ts tn c.tables ts' tn'
    → ColumnsAppended n l.next_catalog_id words names c.columns cs cn cs' cn'
    → create_table_leaves w ns' ts' tn' cs' cn' ≡ store w c (effect (load w c) (commit_at terms (create_table schema name words names)))
unfolding effect
create_table_stored w c h terms schema name words names o p q r s e S N A =
    create_table_words w c h terms.time schema name words names (rw (e, ← o) at S.snapshots) (rw (S.id, e, ← o, ← p) at N.records) (rw (← q) at N.names)
    (rw (S.id, e, ← o, ← r) at A.records) (rw (e, ← o, ← s) at A.named)
