-- The tests of readings against the definition's: what was looked at in the runs, in the tables of these words.
use Prim.Native.Nat.{ℕ}
use mathlib.Core.Path.{◌≡◌, refl, ◌∙◌}
use mathlib.Core.Bool.{Bool}
use mathlib.Core.List.{List}
use Rattle.layout.specs.declared.outcome.Counts.{Counts}
use Rattle.layout.specs.Words.{Words, load, snapshots_in, schemas_in, tables_in}
use Rattle.ducklake.specs.Liveness.{retained, is_live}
use Rattle.ducklake.specs.Readings.{columns, files, rows}
use Rattle.ducklake.specs.Calls.{query_at}
use Rattle.refusals.specs.Checked.{unanswered}

module _ (w : Words) (c : Counts) {run : List ℕ} {b : Bool} where
  -- 5
  pub retained_as : (s : ℕ) → w.snapshots ≡ run → b ≡ retained (snapshots_in run c.snapshots) s → b ≡ retained (load w c).snapshots s
  unfolding load
  retained_as s e h = h ∙ rw (← e) refl

  -- 6, of a schema, of a table

  pub schema_live_as : (s schema : ℕ) → w.schemas ≡ run → b ≡ is_live (schemas_in run w.schema_names c.schemas) s schema → b ≡ is_live (load w c).schemas s schema
  unfolding load
  schema_live_as s schema e h = h ∙ rw (← e) refl

  pub table_live_as : (s table : ℕ) → w.tables ≡ run → b ≡ is_live (tables_in run w.table_names c.tables) s table → b ≡ is_live (load w c).tables s table
  unfolding load
  table_live_as s table e h = h ∙ rw (← e) refl

-- columns and rows are refused as files are
module _ (w : Words) (c : Counts) (s table : ℕ) {n : ℕ} (e : n ≡ unanswered w c (query_at s (files table))) where
  pub columns_unanswered : n ≡ unanswered w c (query_at s (columns table))
  unfolding unanswered
  columns_unanswered = e

  pub rows_unanswered : n ≡ unanswered w c (query_at s (rows table))
  unfolding unanswered
  rows_unanswered = e
