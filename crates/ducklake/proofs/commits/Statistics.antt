-- After a good change each file has its statistics, and each table its columns.
use Prim.Native.Nat.{ℕ, ◌<◌}
use mathlib.Core.Path.{◌≡◌, refl, sym, subst, ◌∙◌}
use mathlib.Core.List.{map}
use mathlib.Core.Bool.{true, ◌&&◌}
use native.Mathlib.Omega.{arith}
use lib.Dec.{eqb}
use lib.ListN.{length-map}
use borrow.Author.Tests.{eqb-true, ne_eqb}
use Rattle.lists.proofs.Tests.{if, either, clash}
use Rattle.lists.proofs.Members.{In, All, each, all_append, all_one, all_step, in_step}
use Rattle.lists.proofs.Selections.{filter_more, filter_step, agree_map}
use Rattle.layout.specs.Catalog.{absent, Versioned, Snapshot, Table, Column, DataFile, Statistics, Catalog}
use Rattle.ducklake.specs.Liveness.{live, latest, latest_id, columns_at}
use Rattle.ducklake.specs.Soundness.{statistics_fit, file_statistics, statistics_wanted, file_statistics_sound}
use Rattle.ducklake.specs.Commits.{Change, close, grow, commit, next_snapshot}
use Rattle.ducklake.proofs.facts.Facts.{reflects_live, SameLife, ColumnIn, FileStatistics, ColumnCount, ColumnCounts, Sound}
use Rattle.ducklake.proofs.facts.Below.{data_file_below}
use Rattle.ducklake.proofs.commits.Moves.{table_step, live_step, in_born, live_born, latest_in_lem, below_latest, open_live}
use Rattle.ducklake.proofs.commits.Good.{next_id, table_next, column_next, data_file_next, born_columns, born_data_files, Good}
use Rattle.ducklake.proofs.readings.Frames.{commit_columns}
use Rattle.ducklake.proofs.commits.Deletes.{same_id}
use Rattle.ducklake.proofs.commits.Numbers.{next_small}
use Rattle.ducklake.proofs.commits.Lives.{column_next_lem}

-- records of one life are live together
live_same : {A B : Type 0} (s : ℕ) {v : Versioned A} {w : Versioned B} → SameLife v w → live s w ≡ live s v
unfolding live
live_same s h = rw (h.begin, h.end)

module _ (C : Catalog) (d : Change) (S : Sound C) (G : Good C d) where
  -- new statistics are of new files
  statistics_old : (k : ℕ) → k < (latest C).next_file_id → file_statistics (commit C d).statistics k ≡ file_statistics C.statistics k
  unfolding file_statistics commit
  statistics_old k h =
      filter_more (λ x. eqb x.data_file k) C.statistics d.added.statistics
      (λ x m. let l = G.statistics_new.at x m in ne_eqb x.data_file k (λ e. omega arith))

  -- a column that ends keeps its statistics
  fit_next : (rows : ℕ) (c : Versioned Column) (x : Statistics) → statistics_fit rows (column_next C d c) x ≡ statistics_fit rows c x
  unfolding statistics_fit close
  fit_next rows c x = refl

  -- an old file's statistics stay sound
  file_next : (f : Versioned DataFile) → In f C.data_files → file_statistics_sound (commit C d).columns (commit C d).statistics (data_file_next C d f) ≡ file_statistics_sound C.columns C.statistics f
  unfolding file_statistics_sound statistics_wanted close
  file_next f m =
      rw (commit_columns C d f.begin (S.lives.data_files.at f m).begun (next_small C d G) f.body.table, statistics_old f.id (data_file_below S f m))
      (agree_map (statistics_fit f.body.record_count) (column_next C d) (fit_next f.body.record_count) (columns_at C.columns f.begin f.body.table) (file_statistics C.statistics f.id))

  pub commit_statistics : FileStatistics (commit C d)
  commit_statistics = record {
    each = unfold commit in all_step (data_file_next C d) C.data_files (λ f m. file_next f m ∙ S.statistics.each.at f m) G.statistics_each;
    on_file = unfold commit close in all_append
        (each (λ x m. in_step (data_file_next C d) (born_data_files C d) (S.statistics.on_file.at x m) (λ f i e. e))) G.statistics_on_file;
  }

  -- a table that is live at the new snapshot was open
  table_open : (t : Versioned Table) → In t C.tables → live (next_id C d) (table_next C d t) ≡ true → t.end ≡ absent
  table_open t m l =
      let s = table_step (next_id C d) d.ends.table d.rows t in
      let r = (reflects_live (next_id C d) (table_next C d t) (next_small C d G)).to l in
      either (S.lives.tables.at t m).ended (λ e. e) (λ e. absurd (either s.end (λ x. omega (arith, r.1)) (λ x. omega (arith, r.1))))

  table_live : (t : Versioned Table) → In t C.tables → live (next_id C d) (table_next C d t) ≡ true → live (latest_id C) t ≡ true
  table_live t m l = open_live t (omega (arith, next_small C d G)) (S.lives.tables.at t m) (table_open t m l)

  -- and so were its columns
  column_live_lem : (t : Versioned Table) → In t C.tables → live (next_id C d) (table_next C d t) ≡ true
      → (c : Versioned Column) → In c C.columns → c.body.table ≡ t.id → live (next_id C d) (column_next C d c) ≡ live (latest_id C) c
  column_live_lem t i l c m e =
      let r = S.nest.columns.at c m in
      let h : ColumnIn c t = subst (ColumnIn c) (same_id S.ascend.tables r.0 t r.1 i (r.2.same ∙ e)) r.2 in
      live_same (next_id C d) (column_next_lem C d S G c t m i h).life ∙ (l ∙ sym (live_same (latest_id C) h.life ∙ table_live t i l))

  -- its columns at the new snapshot are those of the latest one
  columns_now : (t : Versioned Table) → In t C.tables → live (next_id C d) (table_next C d t) ≡ true
      → columns_at (commit C d).columns (next_id C d) t.id ≡ map (column_next C d) (columns_at C.columns (latest_id C) t.id)
  unfolding columns_at commit
  columns_now t i l =
      filter_step (λ c. eqb c.body.table t.id && live (latest_id C) c) (λ c. eqb c.body.table t.id && live (next_id C d) c) (column_next C d) C.columns (born_columns C d)
      (λ c m. let k = column_live_lem t i l c m in unfold close in
      if (eqb c.body.table t.id) (λ b. rw b (k (eqb-true c.body.table t.id b))) (λ b. rw b))
      (λ c m.
      let n = G.columns_new.at c.body (in_born (next_id C d) 1 d.added.columns m).body in
      rw (ne_eqb c.body.table t.id (λ e. omega (arith, S.files.tables_below.at t i))))

  -- a table has as many columns as before
  count_next : (s r : ℕ) (t : Versioned Table) → ColumnCount C r t
      → (live s (table_next C d t) ≡ true → (live r t ≡ true) × (columns_at (commit C d).columns s t.id ≡ map (column_next C d) (columns_at C.columns r t.id)))
      → ColumnCount (commit C d) s (table_next C d t)
  unfolding close grow
  count_next s r t o h = record {
    least = λ l. let k = h l in rw (k.1, length-map) (o.least k.0);
    most = λ l. let k = h l in rw (k.1, length-map) (o.most k.0);
  }

  counts_old : (n : Snapshot) → In n C.snapshots → All (ColumnCount (commit C d) n.id) (commit C d).tables
  counts_old n m =
      let k = next_small C d G in
      let b = below_latest S n m in
      unfold commit in all_step (table_next C d) C.tables
      (λ t i. count_next n.id n.id t ((S.column_counts.at n m).at t i)
      (λ l. (sym (live_step n.id (table_step (next_id C d) d.ends.table d.rows t) (omega arith) k) ∙ l, commit_columns C d n.id b k t.id)))
      (each (λ t i. let e = live_born n.id (in_born (next_id C d) _ d.added.tables i) (omega arith) k in record { least = λ l. clash l e; most = λ l. clash l e }))

  counts_new : All (ColumnCount (commit C d) (next_id C d)) (commit C d).tables
  counts_new =
      unfold commit in all_step (table_next C d) C.tables
      (λ t i. count_next (next_id C d) (latest_id C) t ((S.column_counts.at (latest C) (latest_in_lem S)).at t i) (λ l. (table_live t i l, columns_now t i l)))
      (each (λ t i. let h = G.column_counts.at t i in record { least = λ l. h.0; most = λ l. h.1 }))

  pub commit_column_counts : ColumnCounts (commit C d)
  commit_column_counts = unfold commit next_snapshot in all_append (each counts_old) (all_one counts_new)
