-- The test of a column against the definition's: a table's columns stand together.
use Prim.Native.Nat.{ℕ}
use mathlib.Core.Path.{◌≡◌, refl, ◌∙◌}
use mathlib.Core.Bool.{Bool, true, false, ◌&&◌}
use mathlib.Core.List.{List}
use lib.Dec.{eqb}
use Rattle.lists.specs.Lists.{any}
use Rattle.lists.specs.Runs.{from, field, at, Together}
use Rattle.lists.proofs.Selections.{any_both, any_ext}
use Rattle.layout.specs.declared.outcome.Counts.{Counts}
use Rattle.layout.specs.Fields.{column_size, column_table_word, column_begin_word}
use Rattle.layout.specs.Catalog.{Versioned, Column}
use Rattle.layout.specs.Records.{column_layout}
use Rattle.layout.specs.Words.{Words, load, column_at, columns_in}
use Rattle.ducklake.specs.Liveness.{live, columns_at, column_live}
use Rattle.lookup.specs.declared.life.Life.{Life}
use Rattle.lookup.specs.Versions.{life_at, with_life}
use Rattle.scans.proofs.Statistics.{any_block}

-- 6, of a column
pub column_live_as : (w : Words) (c : Counts) (s table column : ℕ) {run : List ℕ} {b : Bool} → w.columns ≡ run
    → b ≡ column_live (columns_in run w.column_names c.columns) s table column → b ≡ column_live (load w c).columns s table column
unfolding load
column_live_as w c s table column e h = h ∙ rw (← e) refl

-- a column of that id, live at s
abbrev pub is_column : ℕ → ℕ → Versioned Column → Bool
is_column column s v = eqb v.id column && live s v

column-is : (run names : List ℕ) (i column s : ℕ) {x : ℕ} {l : Life} {b : Bool} → x ≡ (at column_layout run i).id → l ≡ life_at column_size column_begin_word run i → b ≡ live s (with_life l)
    → is_column column s (column_at run names i) ≡ (eqb x column && b)
unfolding field live
column-is run names i column s e f g = rw (e, g, f) refl

pub column_tested : (run names : List ℕ) (i column s : ℕ) {x : ℕ} {l : Life} {b t : Bool} → x ≡ (at column_layout run i).id → l ≡ life_at column_size column_begin_word run i → b ≡ live s (with_life l)
    → (eqb x column && b) ≡ t → is_column column s (column_at run names i) ≡ t
column_tested run names i column s e f g h = column-is run names i column s e f g ∙ h

pub column_block : (run names : List ℕ) (n s table column : ℕ) {a e : ℕ} → Together (field column_size column_table_word run) n table a e
    → column_live (columns_in run names n) s table column ≡ any (is_column column s) (from (column_at run names) a e)
unfolding column_live columns_at field
column_block run names n s table column {a} {e} T =
    any_both (λ v. eqb v.id column) (λ v. eqb v.body.table table && live s v) (columns_in run names n)
    ∙ (any_ext _ (λ v. eqb v.body.table table && is_column column s v) (columns_in run names n) (λ v m. swap (eqb v.id column) (eqb v.body.table table) (live s v))
    ∙ any_block (column_at run names) (λ v. v.body.table) table n a e T (is_column column s))
  where
    swap : (x y z : Bool) → (x && (y && z)) ≡ (y && (x && z))
    swap true y z = refl
    swap false true z = refl
    swap false false z = refl
