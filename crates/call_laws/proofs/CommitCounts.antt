-- How many records each commit adds: read off its change.
use Prim.Native.Nat.{ℕ, suc, ◌+◌}
use mathlib.Core.Path.{◌≡◌, refl, ap, ◌∙◌}
use mathlib.Core.List.{List, [], ◌∷◌, ◌++◌}
use native.Mathlib.Nat.{add-zero}
use lib.ListN.{length, length-append, length-map}
use Rattle.lists.specs.Lists.{range, sum}
use Rattle.lists.proofs.Orders.{length_sort}
use Rattle.lists.proofs.Loops.{length-range}
use Rattle.layout.specs.declared.record.Uuid.{Uuid}
use Rattle.layout.specs.Catalog.{Catalog}
use Rattle.layout.specs.Words.{counts_of}
use Rattle.ducklake.specs.Liveness.{latest, latest_id, deleted_at}
use Rattle.ducklake.specs.Arguments.{column_arguments, new_columns, statistics_arguments, new_statistics}
use Rattle.ducklake.specs.Commits.{born, create_schema, create_table, insert, delete, drop_table, drop_schema, change_of, new_data_file_id, additions}

born_length : {A : Type 0} (n k : ℕ) (xs : List A) → length (born n k xs) ≡ length xs
born_length n k [] = refl
born_length n k (x ∷ xs) = ap suc (born_length n (suc k) xs)

pub columns_length : (table : ℕ) (words names : List ℕ) → length (new_columns table words names) ≡ column_arguments words
unfolding new_columns
columns_length table words names = length-map (range 0 (column_arguments words)) _ ∙ length-range 0 (column_arguments words)

pub statistics_length : (data_file : ℕ) (words : List ℕ) → length (new_statistics data_file words) ≡ statistics_arguments words
unfolding new_statistics
statistics_length data_file words = length-map (range 0 (statistics_arguments words)) _ ∙ length-range 0 (statistics_arguments words)

module _ (C : Catalog) (time : ℕ) where
  pub create_schema_adds : (name : List ℕ) → counts_of (additions C (change_of C time (create_schema name)))
      ≡ record { snapshots = 1; schemas = 1; tables = 0; columns = 0; data_files = 0; delete_files = 0; positions = 0; statistics = 0; scheduled = 0 }
  unfolding change_of counts_of sum
  create_schema_adds name = refl

  pub create_table_adds : (schema : ℕ) (name words names : List ℕ) → counts_of (additions C (change_of C time (create_table schema name words names)))
      ≡ record { snapshots = 1; schemas = 0; tables = 1; columns = column_arguments words; data_files = 0; delete_files = 0; positions = 0; statistics = 0; scheduled = 0 }
  unfolding change_of counts_of sum
  create_table_adds schema name words names = λ i. record {
    snapshots = 1;
    schemas = 0;
    tables = 1;
    columns = (born_length (suc (latest_id C)) 1 (new_columns (latest C).next_catalog_id words names) ∙ columns_length (latest C).next_catalog_id words names) i;
    data_files = 0;
    delete_files = 0;
    positions = 0;
    statistics = 0;
    scheduled = 0;
  }

  pub insert_adds_lem : (table rows : ℕ) (uuid : Uuid) (statistics : List ℕ) → counts_of (additions C (change_of C time (insert table rows uuid statistics)))
      ≡ record { snapshots = 1; schemas = 0; tables = 0; columns = 0; data_files = 1; delete_files = 0; positions = 0; statistics = statistics_arguments statistics; scheduled = 0 }
  unfolding change_of counts_of sum
  insert_adds_lem table rows uuid statistics = λ i. record {
    snapshots = 1;
    schemas = 0;
    tables = 0;
    columns = 0;
    data_files = 1;
    delete_files = 0;
    positions = 0;
    statistics = statistics_length (new_data_file_id C 0) statistics i;
    scheduled = 0;
  }

  pub delete_adds_lem : (data_file : ℕ) (uuid : Uuid) (positions : List ℕ) → counts_of (additions C (change_of C time (delete data_file uuid positions)))
      ≡ record {
        snapshots = 1;
        schemas = 0;
        tables = 0;
        columns = 0;
        data_files = 0;
        delete_files = 1;
        positions = length (deleted_at C.delete_files (latest_id C) data_file) + length positions;
        statistics = 0;
        scheduled = 0;
      }
  unfolding change_of counts_of sum
  delete_adds_lem data_file uuid positions = λ i. record {
    snapshots = 1;
    schemas = 0;
    tables = 0;
    columns = 0;
    data_files = 0;
    delete_files = 1;
    positions = (add-zero _ ∙ (length_sort (λ p. p) (deleted_at C.delete_files (latest_id C) data_file ++ positions) ∙ length-append (deleted_at C.delete_files (latest_id C) data_file) positions)) i;
    statistics = 0;
    scheduled = 0;
  }

  pub drop_table_adds : (table : ℕ) → counts_of (additions C (change_of C time (drop_table table)))
      ≡ record { snapshots = 1; schemas = 0; tables = 0; columns = 0; data_files = 0; delete_files = 0; positions = 0; statistics = 0; scheduled = 0 }
  unfolding change_of counts_of sum
  drop_table_adds table = refl

  pub drop_schema_adds : (schema : ℕ) → counts_of (additions C (change_of C time (drop_schema schema)))
      ≡ record { snapshots = 1; schemas = 0; tables = 0; columns = 0; data_files = 0; delete_files = 0; positions = 0; statistics = 0; scheduled = 0 }
  unfolding change_of counts_of sum
  drop_schema_adds schema = refl
