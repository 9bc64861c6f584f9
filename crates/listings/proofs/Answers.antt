-- The answers of listings by the runs that they are lent.
use Prim.Native.Nat.{ℕ}
use mathlib.Core.Path.{◌≡◌, refl, ◌∙◌}
use mathlib.Core.Bool.{Bool, ◌&&◌}
use mathlib.Core.List.{List, [], ◌∷◌, map}
use lib.ListN.{take}
use Rattle.lists.specs.Lists.{non_empty, highest, sort_by}
use Rattle.layout.specs.declared.outcome.Counts.{Counts}
use Rattle.layout.specs.Names.{is_name_argument}
use Rattle.layout.specs.Words.{Words, load, snapshots_in, schemas_in, tables_in, columns_in}
use Rattle.ducklake.specs.Liveness.{schemas_at, tables_at, columns_at}
use Rattle.ducklake.specs.Readings.{schemas, tables, columns, table_named, tables_named, query_answer, snapshots_by_time}
use Rattle.ducklake.specs.Calls.{query_at, by_time, reading_answer}

module _ (w : Words) (c : Counts) (s : ℕ) {run : List ℕ} where
  pub schemas_answer : w.schemas ≡ run → reading_answer (load w c) (query_at s schemas) ≡ map (λ v. v.id) (schemas_at (schemas_in run w.schema_names c.schemas) s)
  unfolding reading_answer query_answer load
  schemas_answer e = rw (← e) refl

  pub tables_answer : (schema : ℕ) → w.tables ≡ run
      → reading_answer (load w c) (query_at s (tables schema)) ≡ map (λ t. t.id) (tables_at (tables_in run w.table_names c.tables) s schema)
  unfolding reading_answer query_answer load
  tables_answer schema e = rw (← e) refl

  pub columns_answer : (table : ℕ) → w.columns ≡ run → reading_answer (load w c) (query_at s (columns table))
      ≡ map (λ v. v.id) (sort_by (λ v. v.body.order) (columns_at (columns_in run w.column_names c.columns) s table))
  unfolding reading_answer query_answer load
  columns_answer table e = rw (← e) refl

module _ (w : Words) (c : Counts) (s schema : ℕ) (name : List ℕ) {run names : List ℕ} (e : w.tables ≡ run) (f : w.table_names ≡ names) where
  pub named_answer : {x : ℕ} → take 1 (map (λ t. t.id) (tables_named (tables_in run names c.tables) s schema name)) ≡ x ∷ []
      → reading_answer (load w c) (query_at s (table_named schema name)) ≡ x ∷ []
  unfolding reading_answer query_answer load
  named_answer h = rw (← e, ← f) at h

  pub named_as : {a b : Bool} → a ≡ is_name_argument name → b ≡ non_empty (tables_named (tables_in run names c.tables) s schema name)
      → (a && b) ≡ (is_name_argument name && non_empty (tables_named (load w c).tables s schema name))
  unfolding load
  named_as p q = rw (p, q, ← e, ← f) refl

module _ (w : Words) (c : Counts) (t : ℕ) {run : List ℕ} (e : w.snapshots ≡ run) where
  pub by_time_answer : {x : ℕ} → x ≡ highest (snapshots_by_time (snapshots_in run c.snapshots) t) → reading_answer (load w c) (by_time t) ≡ x ∷ []
  unfolding reading_answer load
  by_time_answer h = rw (h, ← e) refl

  pub by_time_as : {b : Bool} → b ≡ non_empty (snapshots_by_time (snapshots_in run c.snapshots) t) → b ≡ non_empty (snapshots_by_time (load w c).snapshots t)
  unfolding load
  by_time_as h = h ∙ rw (← e) refl
