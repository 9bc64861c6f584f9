-- After a good change names are apart, delete files follow one another, and row ranges ascend.
use Prim.Native.Nat.{ℕ, suc, ◌+◌, ◌<◌}
use mathlib.Core.Path.{◌≡◌}
use mathlib.Core.Logic.{inl, inr}
use mathlib.Core.List.{List}
use native.Mathlib.Omega.{arith}
use lib.ListN.{length}
use Rattle.lists.proofs.Tests.{either}
use Rattle.lists.proofs.Members.{all_step, pair_step, in_step, nest_step}
use Rattle.layout.specs.Catalog.{absent, Versioned, DeleteFile, Catalog}
use Rattle.ducklake.specs.Liveness.{latest, latest_id}
use Rattle.ducklake.specs.Commits.{Change, close, grow, commit}
use Rattle.ducklake.proofs.facts.Facts.{Life, Overlap, SchemasApart, TablesApart, ColumnsApart, Apart, SucceededBy, DeleteFilesApart, Deletes, RowsBefore, RowsIn, Rows, Sound}
use Rattle.ducklake.proofs.facts.Below.{column_below}
use Rattle.ducklake.proofs.commits.Moves.{Step, close_step, table_step, step_end, Born, in_born}
use Rattle.ducklake.proofs.commits.Good.{next_id, schema_next, table_next, column_next, data_file_next, delete_file_next, born_tables, born_data_files, Good}
use Rattle.ducklake.proofs.commits.Numbers.{next_small}

-- lives that overlap after a step did so before it
overlap_step : {A : Type 0} {n : ℕ} {v v' w w' : Versioned A} → Step n v v' → Step n w w' → n < absent → Overlap v' w' → Overlap v w
overlap_step s t h o = omega (arith, step_end s h, step_end t h)

-- a life that overlaps that of a new record is open
overlap_born : {A : Type 0} {C : Catalog} {k m : ℕ} {xs : List A} {v v' w : Versioned A}
    → Life C v → Step (suc (latest_id C)) v v' → Born (suc (latest_id C)) k m xs w → Overlap v' w → v.end ≡ absent
overlap_born l s b o =
    either l.ended (λ e. e)
    (λ e. absurd (either s.end (λ x. omega arith) (λ x. omega arith)))

module _ (C : Catalog) (d : Change) (S : Sound C) (G : Good C d) where
  pub commit_apart : Apart (commit C d)
  unfolding commit close grow
  commit_apart =
      let n = next_id C d in
      let c = (latest C).next_catalog_id in
      let small = next_small C d G in
      let schema = close_step n d.ends.schema in
      let table = table_step n d.ends.table d.rows in
      let column = close_step n d.ends.column in
      record {
        schemas = pair_step {R = SchemasApart} (schema_next C d) S.apart.schemas
            (λ v w m i h o. h (overlap_step (schema v) (schema w) small o)) G.schemas_apart
            (λ v w m i o.
            let b = in_born n c d.added.schemas i in
            (G.schema_names_free v m (overlap_born (S.lives.schemas.at v m) (schema v) b o)).at w.body b.body);
        tables = pair_step {R = TablesApart} (table_next C d) S.apart.tables
            (λ v w m i h e o. h e (overlap_step (table v) (table w) small o)) G.tables_apart
            (λ v w m i e o.
            let b = in_born n (c + length d.added.schemas) d.added.tables i in
            (G.table_names_free v m (overlap_born (S.lives.tables.at v m) (table v) b o)).at w.body b.body e);
        columns = pair_step {R = ColumnsApart} (column_next C d) S.apart.columns
            (λ v w m i h e o. h e (overlap_step (column v) (column w) small o)) G.columns_apart
            (λ v w m i e o. absurd (omega (arith, column_below S v m, G.columns_new.at w.body (in_born n 1 d.added.columns i).body)));
      }

  -- a delete file that another one succeeds still is succeeded by it
  succeeded_next : (e x : Versioned DeleteFile) → SucceededBy e x → SucceededBy (delete_file_next C d e) (delete_file_next C d x)
  unfolding close
  succeeded_next e x h = record { ended = omega (arith, h.ended, step_end (close_step (next_id C d) d.ends.delete_file e) (next_small C d G)); held = h.held }

  pub commit_deletes : Deletes (commit C d)
  unfolding commit
  commit_deletes = record {
    apart = pair_step {R = DeleteFilesApart} (delete_file_next C d) S.deletes.apart
        (λ e x m i h. unfold close in (λ q. either (h q) (λ b. inl (succeeded_next e x b)) (λ b. inr (succeeded_next x e b)))) G.deletes_apart
        (λ e x m i. unfold close in (λ q. inl ((G.deletes_succeed e m).at x i q)));
    positions = all_step (delete_file_next C d) C.delete_files
        (λ e m. let h = S.deletes.positions.at e m in unfold close in record {
          some = h.some;
          ascend = h.ascend;
          home = in_step (data_file_next C d) (born_data_files C d) h.home (λ f i k. record { same = k.same; fit = k.fit });
        })
        G.positions;
  }

  pub commit_rows : Rows (commit C d)
  unfolding commit close grow
  commit_rows = record {
    before = pair_step {R = RowsBefore} (data_file_next C d) S.rows.before (λ f g m i h. h) G.rows_ascend (λ f g m i. (G.rows_after f m).at g i);
    within = nest_step RowsIn (data_file_next C d) (table_next C d) (born_tables C d) S.rows.within
        (λ f t m i h. omega arith) G.rows_in;
  }
