-- What a drop finds in a schema, and what its writes come to: the runs of any words that fit become those of its effect.
use Prim.Native.Nat.{ℕ}
use mathlib.Core.Path.{◌≡◌, refl, ◌∙◌}
use mathlib.Core.Bool.{Bool, true, not}
use mathlib.Core.List.{List}
use Rattle.lists.specs.Lists.{non_empty}
use Rattle.layout.specs.declared.outcome.Counts.{Counts}
use Rattle.layout.specs.declared.outcome.Terms.{Terms}
use Rattle.layout.specs.Fields.{schema_size, schema_id_word, schema_end_word, table_size, table_id_word, table_end_word, column_size, column_table_word, column_end_word, data_file_size, data_file_table_word, data_file_end_word, delete_file_size, delete_file_table_word, delete_file_end_word}
use Rattle.layout.specs.Catalog.{Snapshot}
use Rattle.layout.specs.Words.{Words, load, store, fits, tables_in}
use Rattle.ducklake.specs.Kinds.{dropped_schema, dropped_table}
use Rattle.ducklake.specs.Liveness.{latest_id, tables_at}
use Rattle.ducklake.specs.Commits.{drop_table, drop_schema, following}
use Rattle.ducklake.specs.Calls.{commit_at, effect}
use Rattle.call_laws.specs.Writes.{end_records}
use Rattle.call_laws.proofs.CommitWords.{drop_schema_words, drop_table_words}
use Rattle.commits.specs.Written.{SnapshotAppended}
use Rattle.commits.proofs.Effects.{latest_in, appended_as, id_as, ended_as}
use Rattle.drops.specs.Lent.{drop_schema_leaves, drop_table_leaves}

-- 11, in the tables of these words
pub empty_as : (w : Words) (c : Counts) {ns ts : List ℕ} → w.snapshots ≡ ns → {l : Snapshot} → l ≡ latest_in ns c.snapshots → (schema : ℕ) {b : Bool} → w.tables ≡ ts
    → b ≡ not (non_empty (tables_at (tables_in ts w.table_names c.tables) l.id schema)) → b ≡ not (non_empty (tables_at (load w c).tables (latest_id (load w c)) schema))
unfolding load
empty_as w c p e schema q h = h ∙ rw (e, ← p, ← q) refl

module _ (w : Words) (c : Counts) (h : fits w c ≡ true) (terms : Terms) {ns ns' : List ℕ} {k : ℕ} (p : w.snapshots ≡ ns) where
  pub drop_schema_stored : (schema : ℕ) {ss ss' : List ℕ} → w.schemas ≡ ss
      → SnapshotAppended ns c.snapshots (following (latest_in ns c.snapshots) terms.time dropped_schema schema 0 0) k ns'
      → ss' ≡ end_records schema_size schema_id_word schema_end_word schema k ss c.schemas
      → drop_schema_leaves w ns' ss' ≡ store w c (effect (load w c) (commit_at terms (drop_schema schema)))
  unfolding effect
  drop_schema_stored schema q S r =
      drop_schema_words w c h terms.time schema (appended_as w c p next S) (ended_as schema_size schema_id_word schema_end_word schema c.schemas q (id_as w c p next S) r)
    where
      next : Snapshot → Snapshot
      next s = following s terms.time dropped_schema schema 0 0

  pub drop_table_stored : (table : ℕ) {ts ts' cs cs' fs fs' ds ds' : List ℕ} → w.tables ≡ ts → w.columns ≡ cs → w.data_files ≡ fs → w.delete_files ≡ ds
      → SnapshotAppended ns c.snapshots (following (latest_in ns c.snapshots) terms.time dropped_table table 0 0) k ns'
      → ts' ≡ end_records table_size table_id_word table_end_word table k ts c.tables
      → cs' ≡ end_records column_size column_table_word column_end_word table k cs c.columns
      → fs' ≡ end_records data_file_size data_file_table_word data_file_end_word table k fs c.data_files
      → ds' ≡ end_records delete_file_size delete_file_table_word delete_file_end_word table k ds c.delete_files
      → drop_table_leaves w ns' ts' cs' fs' ds' ≡ store w c (effect (load w c) (commit_at terms (drop_table table)))
  unfolding effect
  drop_table_stored table q r s t S a b d e =
      drop_table_words w c h terms.time table (appended_as w c p next S)
      (ended_as table_size table_id_word table_end_word table c.tables q (id_as w c p next S) a)
      (ended_as column_size column_table_word column_end_word table c.columns r (id_as w c p next S) b)
      (ended_as data_file_size data_file_table_word data_file_end_word table c.data_files s (id_as w c p next S) d)
      (ended_as delete_file_size delete_file_table_word delete_file_end_word table c.delete_files t (id_as w c p next S) e)
    where
      next : Snapshot → Snapshot
      next s = following s terms.time dropped_table table 0 0
