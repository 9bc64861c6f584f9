-- A filter's test of a data file, over its statistics alone: they stand together.
use Prim.Native.Nat.{ℕ, ◌+◌, ◌≤◌, ◌<◌}
use mathlib.Core.Path.{◌≡◌, refl, sym, ap, ◌∙◌}
use mathlib.Core.Bool.{Bool, true, false, ◌&&◌, ◌||◌, and_assoc}
use mathlib.Core.List.{List, map}
use lib.Dec.{eqb}
use lib.IntN.{ℤ}
use lib.Signed.{le_z}
use Rattle.lists.specs.Lists.{range, any}
use Rattle.lists.specs.Runs.{from, field, at, Together}
use Rattle.lists.proofs.Loops.{from_step, from_end}
use Rattle.lists.proofs.Selections.{any_both, any_ext}
use Rattle.lists.proofs.Blocks.{filter_block}
use Rattle.layout.specs.declared.record.StatisticsRecord.{StatisticsRecord}
use Rattle.layout.specs.Fields.{statistics_size, statistics_data_file_word}
use Rattle.layout.specs.Catalog.{Versioned, DataFile, Statistics, statistics_of}
use Rattle.layout.specs.Records.{statistics_layout}
use Rattle.layout.specs.Types.{signed}
use Rattle.layout.specs.Words.{statistics_at, statistics_in}
use Rattle.ducklake.specs.Readings.{admits, kept}

-- a search that ends at the first element that passes
module _ {A : Type 0} (f : ℕ → A) (p : A → Bool) where
  pub any_here : (i n : ℕ) → i < n → p (f i) ≡ true → any p (from f i n) ≡ true
  unfolding any
  any_here i n h e = rw (from_step f i n h, e) refl

  pub any_past : (i n : ℕ) → i < n → p (f i) ≡ false → any p (from f i n) ≡ any p (from f (i + 1) n)
  unfolding any
  any_past i n h e = rw (from_step f i n h, e) refl

  pub any_over : (i n : ℕ) → n ≤ i → any p (from f i n) ≡ false
  unfolding any
  any_over i n h = rw (from_end f i n h) refl

-- among records whose key stands together
pub any_block : {A : Type 0} (f : ℕ → A) (key : A → ℕ) (k n a e : ℕ) → Together (λ i. key (f i)) n k a e → (q : A → Bool)
    → any (λ x. eqb (key x) k && q x) (map f (range 0 n)) ≡ any q (from f a e)
any_block f key k n a e T q =
    sym (any_both (λ x. true) (λ x. eqb (key x) k && q x) (map f (range 0 n))) ∙ (ap (any (λ x. true)) (filter_block f key k n a e T q) ∙ any_both (λ x. true) q (from f a e))

-- a statistics record for the column that admits the scalar
abbrev pub admitted : ℕ → ℤ → Statistics → Bool
admitted column scalar x = eqb x.column column && admits scalar x

-- the filter's test, with the scalar as a word tells it, over the data file's own statistics
pub kept_block : (run : List ℕ) (n column : ℕ) {word scalar : ℤ} → word ≡ scalar → (f : Versioned DataFile) {file a e : ℕ} → f.id ≡ file
    → Together (field statistics_size statistics_data_file_word run) n file a e
    → kept (statistics_in run n) column scalar f ≡ any (admitted column word) (from (statistics_at run) a e)
unfolding kept field
kept_block run n column {word} r f {file} {a} {e} h T =
    rw (← r, h)
    (any_ext _ (λ x. eqb x.data_file file && admitted column word x) (statistics_in run n) (λ x m. and_assoc (eqb x.data_file file) (eqb x.column column) (admits word x))
    ∙ any_block (statistics_at run) (λ x. x.data_file) file n a e T (admitted column word))

-- as the bounds and the scalar were read
pub admits_is : (x : StatisticsRecord) {l h s t : ℤ} → l ≡ signed x.min → h ≡ signed x.max → s ≡ t
    → ((eqb x.has_min 0 || le_z l s) && (eqb x.has_max 0 || le_z s h)) ≡ admits t (statistics_of x)
unfolding admits
admits_is x p q r = rw (p, q, r) refl

-- of the record at i, as it was read
pub admitted_is : (run : List ℕ) (i column : ℕ) (scalar : ℤ) {x : StatisticsRecord} {b : Bool} → x ≡ at statistics_layout run i → b ≡ admits scalar (statistics_of x)
    → admitted column scalar (statistics_at run i) ≡ (eqb x.column column && b)
admitted_is run i column scalar e f = rw (f, e) refl
