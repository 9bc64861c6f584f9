-- The records and names of new columns, behind those in use.
use Prim.Native.Nat.{ℕ, zero, suc, ◌*◌}
use mathlib.Core.Path.{◌≡◌, refl, sym, ap, ◌∙◌}
use mathlib.Core.Bool.{true}
use mathlib.Core.List.{List, ◌∷◌, map}
use Rattle.lists.specs.Lists.{range}
use Rattle.lists.specs.Runs.{overwrite}
use Rattle.layout.specs.Catalog.{column_record}
use Rattle.layout.specs.Names.{name_size}
use Rattle.layout.specs.Records.{column_layout}
use Rattle.ducklake.specs.Arguments.{column_arguments, column_argument, new_columns, columns_fit}
use Rattle.ducklake.specs.Commits.{born}
use Rattle.call_laws.specs.Writes.{extend_table}
use Rattle.call_laws.proofs.CommitWords.{column_names_lem}
use Rattle.table_creation.specs.Appended.{ColumnsAppended}
use Rattle.table_creation.specs.Columns.{new_column_record}

-- "columns get ids 1, 2, …"
module _ (begin table : ℕ) (words names : List ℕ) where
  born_records : (k i : ℕ) → map column_record (born begin (suc i) (map (column_argument table words names) (range i k))) ≡ map (new_column_record begin table words) (range i k)
  unfolding range
  born_records zero i = refl
  born_records (suc k) i = ap (λ rs. new_column_record begin table words i ∷ rs) (born_records k (suc i))

  new_records : {k : ℕ} → k ≡ column_arguments words → map (new_column_record begin table words) (range 0 k) ≡ map column_record (born begin 1 (new_columns table words names))
  unfolding new_columns
  new_records e = rw e (sym (born_records (column_arguments words) 0))

  -- and the names, in their places
  pub columns_appended : (n : ℕ) {k : ℕ} {run places run' places' : List ℕ} → columns_fit table words names ≡ true → k ≡ column_arguments words
      → run' ≡ extend_table column_layout run n (map (new_column_record begin table words) (range 0 k)) → places' ≡ overwrite places (name_size * n) names
      → ColumnsAppended begin table words names n run places run' places'
  columns_appended n {run = run} {places} h e p q = record {
    records = p ∙ ap (extend_table column_layout run n) (new_records e);
    named = q ∙ ap (overwrite places (name_size * n)) (sym (column_names_lem table words names h));
  }
