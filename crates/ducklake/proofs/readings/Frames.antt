-- What a commit, an expiry and a cleanup leave of the readings at older snapshots: everything.
use Prim.Native.Nat.{ℕ, ◌+◌, ◌≤◌, ◌<◌}
use mathlib.Core.Path.{◌≡◌, refl, sym, ◌∙◌}
use mathlib.Core.List.{List, ◌++◌, map}
use mathlib.Core.Bool.{Bool, true, ◌&&◌, and-false, or-false}
use native.Mathlib.Omega.{arith}
use lib.Dec.{eqb}
use lib.IntN.{ℤ}
use lib.ListN.{length}
use borrow.Author.Tests.{eqb-true, eq-eqb, ne_eqb}
use Rattle.lists.specs.Lists.{any, filter}
use Rattle.lists.proofs.Tests.{if, clash}
use Rattle.lists.proofs.Members.{In, in_filter, any_in, in_any, All}
use Rattle.lists.proofs.Selections.{filter-filter, filter_step, any_append, any_filter, any_none}
use Rattle.layout.specs.Catalog.{absent, Versioned, DataFile, Statistics, Catalog}
use Rattle.ducklake.specs.Liveness.{live, live_at_some, retained, latest, latest_id, columns_at, is_live}
use Rattle.ducklake.specs.Commits.{Change, close, grow, born, commit}
use Rattle.ducklake.specs.Refusals.{first}
use Rattle.ducklake.specs.Readings.{Query, admits, kept, query_answer, query_refusals}
use Rattle.ducklake.specs.Maintenance.{expire, cleanup}
use Rattle.ducklake.proofs.facts.Facts.{Sound}
use Rattle.ducklake.proofs.facts.Below.{data_file_below}
use Rattle.ducklake.proofs.commits.Moves.{Step, close_step, table_step, live_step, in_born, live_born}
use Rattle.ducklake.proofs.commits.Good.{next_id, schema_next, table_next, column_next, data_file_next, delete_file_next}
use Rattle.ducklake.proofs.readings.Alike.{Carried, carried_same, Alike, same_columns, same_table_live, same_judge, same_answer_lem}

-- before n, what is born at n is not live, and what moves on at n is live where it was
abbrev carried_step : {A B : Type 0} {s n : ℕ} (seen : A → B) (k : ℕ) (f : Versioned A → Versioned A) (xs : List (Versioned A)) (new : List A) → s < n → n < absent
    → ((v : Versioned A) → Step n v (f v)) → ((v : Versioned A) → seen (f v).body ≡ seen v.body) → Carried seen s xs (map f xs ++ born n k new)
carried_step {s = s} {n} seen k f xs new h l t b = record {
  next = f;
  lives = filter_step (live s) (live s) f xs (born n k new) (λ v m. live_step s (t v) h l) (λ v m. live_born s (in_born n k new m) h l);
  id = λ v. (t v).id;
  body = b;
}

-- what is live at an older snapshot moves on, and nothing new is live there
module _ (C : Catalog) (d : Change) (s : ℕ) (old : s ≤ latest_id C) (small : next_id C d < absent) where
  pub commit_alike : Alike s C (commit C d)
  unfolding commit close grow
  commit_alike =
      record {
        schemas = carried_step (λ x. x) (latest C).next_catalog_id (schema_next C d) C.schemas d.added.schemas h small (close_step (next_id C d) d.ends.schema) (λ v. refl);
        tables = carried_step (λ x. (x.schema, x.name)) ((latest C).next_catalog_id + length d.added.schemas) (table_next C d) C.tables d.added.tables h small (table_step (next_id C d) d.ends.table d.rows) (λ v. refl);
        columns = carried_step (λ x. x) 1 (column_next C d) C.columns d.added.columns h small (close_step (next_id C d) d.ends.column) (λ v. refl);
        data_files = carried_step (λ x. x) ((latest C).next_file_id + length d.added.delete_files) (data_file_next C d) C.data_files d.added.data_files h small (close_step (next_id C d) d.ends.data_file) (λ v. refl);
        delete_files = carried_step (λ x. x) (latest C).next_file_id (delete_file_next C d) C.delete_files d.added.delete_files h small (close_step (next_id C d) d.ends.delete_file) (λ v. refl);
      }
    where
      h : s < next_id C d
      h = omega arith

  pub commit_columns : (k : ℕ) → columns_at (commit C d).columns s k ≡ map (column_next C d) (columns_at C.columns s k)
  unfolding commit_alike
  commit_columns k = same_columns commit_alike k

  pub commit_table_live : (k : ℕ) → is_live (commit C d).tables s k ≡ is_live C.tables s k
  commit_table_live k = same_table_live commit_alike k

  pub commit_judge : (q : Query) (rest : ℕ) → first (query_refusals (commit C d) s q) rest ≡ first (query_refusals C s q) rest
  commit_judge q rest = same_judge commit_alike q rest

  -- new statistics are not of files already registered
  commit_kept : Sound C → All (λ x. (latest C).next_file_id ≤ x.data_file) d.added.statistics → (column : ℕ) (scalar : ℤ) (f : Versioned DataFile) → In f C.data_files
      → kept (commit C d).statistics column scalar f ≡ kept C.statistics column scalar f
  unfolding kept commit
  commit_kept S new column scalar f m =
      any_append p C.statistics d.added.statistics
      ∙ rw (any_none p d.added.statistics (λ x i. rw (ne_eqb x.data_file f.id (λ e. omega (arith, new.at x i, data_file_below S f m))))) (or-false (any p C.statistics))
    where
      p : Statistics → Bool
      p x = eqb x.data_file f.id && eqb x.column column && admits scalar x

  pub commit_answer : Sound C → All (λ x. (latest C).next_file_id ≤ x.data_file) d.added.statistics → (q : Query) → query_answer (commit C d) s q ≡ query_answer C s q
  commit_answer S new q = same_answer_lem commit_alike (λ column scalar f m l. commit_kept S new column scalar f m) q

-- what a snapshot that stays shows is kept
module _ (C : Catalog) (ids : List ℕ) (time s : ℕ) (stays : retained (expire C ids time).snapshots s ≡ true) where
  stay_lives : {A : Type 0} (v : Versioned A) → live s v ≡ true → live_at_some (expire C ids time).snapshots v ≡ true
  unfolding retained live_at_some
  stay_lives v h =
      let r = any_in (λ n. eqb n.id s) (expire C ids time).snapshots stays in
      in_any (λ n. live n.id v) r.1 (rw (eqb-true r.0.id s r.2) h)

  stay_live : {A : Type 0} (xs : List (Versioned A)) → filter (live s) (filter (live_at_some (expire C ids time).snapshots) xs) ≡ filter (live s) xs
  stay_live xs =
      filter-filter (live s) (live_at_some (expire C ids time).snapshots) (live s) xs
      (λ v m. if (live s v) (λ b. rw (b, stay_lives v b)) (λ b. rw (b, and-false (live_at_some (expire C ids time).snapshots v))))

  pub expire_alike : Alike s C (expire C ids time)
  unfolding expire
  expire_alike = record {
    schemas = carried_same (λ x. x) (stay_live C.schemas);
    tables = carried_same (λ x. (x.schema, x.name)) (stay_live C.tables);
    columns = carried_same (λ x. x) (stay_live C.columns);
    data_files = carried_same (λ x. x) (stay_live C.data_files);
    delete_files = carried_same (λ x. x) (stay_live C.delete_files);
  }

  pub expire_table_live : (k : ℕ) → is_live (expire C ids time).tables s k ≡ is_live C.tables s k
  expire_table_live k = same_table_live expire_alike k

  pub expire_judge : (q : Query) (rest : ℕ) → first (query_refusals (expire C ids time) s q) rest ≡ first (query_refusals C s q) rest
  expire_judge q rest = same_judge expire_alike q rest

  -- the statistics of a file that is live there stay
  expire_kept : (column : ℕ) (scalar : ℤ) (f : Versioned DataFile) → In f C.data_files → live s f ≡ true → kept (expire C ids time).statistics column scalar f ≡ kept C.statistics column scalar f
  unfolding kept expire
  expire_kept column scalar f m h =
      any_filter p p (λ x. any (λ g. eqb g.id x.data_file) (filter lives C.data_files)) C.statistics (λ x i b. refl)
      (λ x i b. if (eqb x.data_file f.id)
      (λ e. clash (in_any (λ g. eqb g.id x.data_file) (in_filter lives C.data_files m (stay_lives f h)) (eq-eqb f.id x.data_file (sym (eqb-true x.data_file f.id e)))) b)
      (λ e. rw e))
    where
      lives : Versioned DataFile → Bool
      lives = live_at_some (expire C ids time).snapshots

      p : Statistics → Bool
      p x = eqb x.data_file f.id && eqb x.column column && admits scalar x

  pub expire_answer : (q : Query) → query_answer (expire C ids time) s q ≡ query_answer C s q
  expire_answer q = same_answer_lem expire_alike expire_kept q

-- a cleanup changes the scheduled table alone
pub cleanup_alike : (C : Catalog) (t s : ℕ) → Alike s C (cleanup C t)
unfolding cleanup
cleanup_alike C t s = record {
  schemas = carried_same (λ x. x) refl;
  tables = carried_same (λ x. (x.schema, x.name)) refl;
  columns = carried_same (λ x. x) refl;
  data_files = carried_same (λ x. x) refl;
  delete_files = carried_same (λ x. x) refl;
}

pub cleanup_judge : (C : Catalog) (t s : ℕ) (q : Query) (rest : ℕ) → first (query_refusals (cleanup C t) s q) rest ≡ first (query_refusals C s q) rest
cleanup_judge C t s q rest = same_judge (cleanup_alike C t s) q rest

pub cleanup_answer : (C : Catalog) (t s : ℕ) (q : Query) → query_answer (cleanup C t) s q ≡ query_answer C s q
unfolding kept cleanup
cleanup_answer C t s q = same_answer_lem (cleanup_alike C t s) (λ column scalar f m l. refl) q
