-- After a good change lives are sound, and lie in one another as they have to.
use Prim.Native.Nat.{ℕ, ◌+◌, ◌≤◌}
use mathlib.Core.Path.{◌≡◌, refl, ap, ◌∙◌}
use mathlib.Core.Logic.{◌⊎◌, inl, inr}
use mathlib.Core.List.{List, [], ◌∷◌, ◌++◌, map}
use mathlib.Core.Bool.{Bool, true}
use native.Mathlib.Omega.{arith}
use lib.ListN.{length}
use Rattle.lists.proofs.Tests.{either}
use Rattle.lists.proofs.Members.{In, here, All, each, any_in, in_any, in_left, in_right, all_step, nest_step}
use Rattle.layout.specs.Catalog.{absent, Versioned, Schema, Table, Column, DataFile, DeleteFile, Catalog}
use Rattle.ducklake.specs.Liveness.{live, live_at_some, latest, latest_id}
use Rattle.ducklake.specs.Commits.{Change, close, grow, born, commit, next_snapshot}
use Rattle.ducklake.proofs.facts.Facts.{Life, Lives, Holds, TableIn, ColumnIn, DataFileIn, DeleteFileIn, Nest, Sound}
use Rattle.ducklake.proofs.commits.Moves.{Step, close_step, table_step, close_named, close_cases, step_end, live_step, Born, in_born, live_at_birth, below_latest}
use Rattle.ducklake.proofs.commits.Good.{next_id, schema_next, table_next, column_next, data_file_next, delete_file_next, born_tables, born_data_files, born_schemas, Good}
use Rattle.ducklake.proofs.commits.Numbers.{commit_latest, next_small}

module _ (C : Catalog) (d : Change) (S : Sound C) (G : Good C d) where
  latest_next : latest_id (commit C d) ≡ next_id C d
  unfolding next_snapshot
  latest_next = ap (λ n. n.id) (commit_latest C d)

  -- an old record's life stays sound
  life_step : {A : Type 0} {v w : Versioned A} → Life C v → Step (next_id C d) v w → Life (commit C d) w
  unfolding live_at_some commit
  life_step {v = v} {w} o s =
      let t = latest_next in
      let k = next_small C d G in
      record {
        begun = omega arith;
        ended = either s.end (λ e. either o.ended (λ h. inl (e ∙ h)) (λ h. inr (omega arith))) (λ e. inr (omega arith));
        runs = either s.end (λ e. omega arith) (λ e. omega arith);
        lives = let r = any_in (λ n. live n.id v) C.snapshots o.lives in
            in_any (λ n. live n.id w) (in_left (next_snapshot C d ∷ []) r.1) (live_step r.0.id s (omega (arith, below_latest S r.0 r.1)) k ∙ r.2);
      }

  -- a new record's life is sound
  life_born : {A : Type 0} {k m : ℕ} {xs : List A} {v : Versioned A} → Born (next_id C d) k m xs v → Life (commit C d) v
  unfolding live_at_some commit next_snapshot
  life_born {v = v} b =
      let t = latest_next in
      let k = next_small C d G in
      record {
        begun = omega arith;
        ended = inl b.end;
        runs = omega arith;
        lives = in_any (λ n. live n.id v) (in_right C.snapshots (here {x = next_snapshot C d} refl)) (live_at_birth b k);
      }

  lives_step : {A : Type 0} (f : Versioned A → Versioned A) (k : ℕ) (vs : List (Versioned A)) (xs : List A)
      → ((v : Versioned A) → Step (next_id C d) v (f v)) → All (Life C) vs → All (Life (commit C d)) (map f vs ++ born (next_id C d) k xs)
  lives_step f k vs xs s o = all_step f vs (λ v m. life_step (o.at v m) (s v)) (each (λ v m. life_born (in_born (next_id C d) k xs m)))

  pub commit_lives : Lives (commit C d)
  unfolding commit
  commit_lives =
      let n = next_id C d in
      let c = (latest C).next_catalog_id in
      let f = (latest C).next_file_id in
      let e = d.ends in
      let x = d.added in
      let o = S.lives in
      record {
        schemas = lives_step (schema_next C d) c C.schemas x.schemas (close_step n e.schema) o.schemas;
        tables = lives_step (table_next C d) (c + length x.schemas) C.tables x.tables (table_step n e.table d.rows) o.tables;
        columns = lives_step (column_next C d) 1 C.columns x.columns (close_step n e.column) o.columns;
        data_files = lives_step (data_file_next C d) (f + length x.delete_files) C.data_files x.data_files (close_step n e.data_file) o.data_files;
        delete_files = lives_step (delete_file_next C d) f C.delete_files x.delete_files (close_step n e.delete_file) o.delete_files;
      }

  -- what lies in a record that ends is over or ends with it
  holds_next : {A B : Type 0} (p : Versioned A → Bool) (q : Versioned B → Bool) (a : Versioned A) (b : Versioned B)
      → Holds a b → (b.end ≡ absent) ⊎ (b.end ≤ latest_id C) → (p a ≡ true → b.end ≡ absent → q b ≡ true)
      → Holds (close (next_id C d) p a) (close (next_id C d) q b)
  holds_next p q a b h o e =
      let n = next_id C d in
      let s = close_step n p a in
      let t = close_step n q b in
      let u = step_end t (next_small C d G) in
      record {
        after = omega arith;
        until = either (close_cases n p a)
            (λ k. omega arith)
            (λ k. let x = close_named n p a k.0 k.1 in either o (λ z. omega (arith, close_named n q b (e k.0 z) z)) (λ z. omega arith));
      }

  -- what lies in another record moves on with it

  table_next_lem : (t : Versioned Table) (s : Versioned Schema) → In t C.tables → In s C.schemas → TableIn t s → TableIn (table_next C d t) (schema_next C d s)
  unfolding close grow
  table_next_lem t s m i h = record {
    same = h.same;
    holds = holds_next d.ends.schema d.ends.table s (grow d.rows t) (omega arith)
        (S.lives.tables.at t m).ended (G.end_tables t m s i h);
  }

  pub column_next_lem : (c : Versioned Column) (t : Versioned Table) → In c C.columns → In t C.tables → ColumnIn c t → ColumnIn (column_next C d c) (table_next C d t)
  unfolding close grow
  column_next_lem c t m i h = record {
    same = h.same;
    life = record { begin = h.life.begin; end = let e = G.end_columns c m t i h in rw (e, h.life.end) };
  }

  data_file_next_lem : (f : Versioned DataFile) (t : Versioned Table) → In f C.data_files → In t C.tables → DataFileIn f t → DataFileIn (data_file_next C d f) (table_next C d t)
  unfolding close grow
  data_file_next_lem f t m i h = record {
    same = h.same;
    holds = holds_next d.ends.table d.ends.data_file (grow d.rows t) f (omega arith)
        (S.lives.data_files.at f m).ended (G.end_data_files f m t i h);
  }

  delete_file_next_lem : (e : Versioned DeleteFile) (f : Versioned DataFile) → In e C.delete_files → In f C.data_files → DeleteFileIn e f → DeleteFileIn (delete_file_next C d e) (data_file_next C d f)
  unfolding close
  delete_file_next_lem e f m i h = record {
    same = h.same;
    table = h.table;
    holds = holds_next d.ends.data_file d.ends.delete_file f e h.holds (S.lives.delete_files.at e m).ended (G.end_delete_files e m f i h);
  }

  pub commit_nest : Nest (commit C d)
  unfolding commit
  commit_nest = record {
    tables = nest_step TableIn (table_next C d) (schema_next C d) (born_schemas C d) S.nest.tables table_next_lem G.tables_in;
    columns = nest_step ColumnIn (column_next C d) (table_next C d) (born_tables C d) S.nest.columns column_next_lem G.columns_in;
    data_files = nest_step DataFileIn (data_file_next C d) (table_next C d) (born_tables C d) S.nest.data_files data_file_next_lem G.data_files_in;
    delete_files = nest_step DeleteFileIn (delete_file_next C d) (data_file_next C d) (born_data_files C d) S.nest.delete_files delete_file_next_lem G.delete_files_in;
  }
