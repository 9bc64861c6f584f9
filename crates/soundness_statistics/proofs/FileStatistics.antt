-- The statistics of a file, passed through together with the columns of its table: both stand together, by ascending column id.
use Rattle.std.proofs.Common.{◌≡◌, ℕ, ◌+◌, ◌<◌, ◌≤◌, Bool, true, false, not, eqb, List, sym, refl, ap, ◌∙◌, ap₂, Option}
use Rattle.lists.specs.Lists.{range, filter, agree}
use Rattle.lists.specs.Runs.{at, field, fields, from, Together}
use Rattle.lists.proofs.Blocks.{filter_block, filter_key}
use Rattle.lists.proofs.Matches.{matched, matched_start, matched_skip, matched_pass, matched_fail, matched_short, matched_end}
use Rattle.lists.proofs.Places.{is_at, any_place}
use Rattle.lists.proofs.Selections.{any_maps}
use Rattle.lists.proofs.Tests.{passed, failed}
use Rattle.layout.specs.declared.record.ColumnRecord.{ColumnRecord}
use Rattle.layout.specs.declared.record.DataFileRecord.{DataFileRecord}
use Rattle.layout.specs.declared.record.StatisticsRecord.{StatisticsRecord}
use Rattle.layout.specs.Catalog.{Versioned, Column, Statistics, column_of, data_file_of, statistics_of}
use Rattle.layout.specs.Fields.{column_size, column_table_word, data_file_size, data_file_id_word, statistics_size, statistics_data_file_word}
use Rattle.layout.specs.Names.{name_at}
use Rattle.layout.specs.Records.{column_layout}
use Rattle.layout.specs.Words.{column_at, columns_in, statistics_at, statistics_in, data_file_at, data_files_in}
use Rattle.ducklake.specs.Liveness.{live, columns_at}
use Rattle.ducklake.specs.Soundness.{statistics_fit, file_statistics, statistics_wanted, file_statistics_sound, statistics_on_file}
use Rattle.lookup.specs.Order.{place_of}

-- the columns from the place i on that are wanted, and the statistics that are given from the place j on
module _ (columns names : List ℕ) (given : ℕ → Statistics) (rows begin e y : ℕ) where
  pub judged : ℕ → ℕ → Bool
  judged = matched (statistics_fit rows) (live begin) (column_at columns names) given e y

  pub judged_all : (i j : ℕ) {cs : List (Versioned Column)} {xs : List Statistics} → cs ≡ filter (live begin) (from (column_at columns names) i e) → xs ≡ from given j y
      → agree (statistics_fit rows) cs xs ≡ judged i j
  unfolding judged
  judged_all = matched_start (statistics_fit rows) (live begin) (column_at columns names) given e y

  pub judged_end : (i j : ℕ) → e ≤ i → j ≤ y → judged i j ≡ eqb j y
  unfolding judged
  judged_end = matched_end (statistics_fit rows) (live begin) (column_at columns names) given e y

  -- a column that was read, and whether its statistics are wanted
  module _ (i j : ℕ) {l : ColumnRecord} {b : Bool} (h : i < e) (f : l ≡ at column_layout columns i) (g : (name : List ℕ) → b ≡ live begin (column_of l name)) where
    column_live_lem : {t : Bool} → b ≡ t → live begin (column_at columns names i) ≡ t
    column_live_lem k = sym (g (name_at names i) ∙ ap (λ r. live begin (column_of r (name_at names i))) f) ∙ k

    pub judged_skip : b ≡ false → judged i j ≡ judged (i + 1) j
    unfolding judged
    judged_skip k = matched_skip _ _ _ _ e y i j h (column_live_lem k)

    pub judged_short : b ≡ true → y ≤ j → judged i j ≡ false
    unfolding judged
    judged_short k m = matched_short _ _ _ _ e y i j h (column_live_lem k) m

    -- statistics that were read, and whether they fit
    module _ {s : StatisticsRecord} {r : Bool} (k : b ≡ true) (m : j < y) (o : statistics_of s ≡ given j)
        (t : (name : List ℕ) → r ≡ statistics_fit rows (column_of l name) (statistics_of s)) where
      fit_is : r ≡ statistics_fit rows (column_at columns names i) (given j)
      fit_is = t (name_at names i) ∙ ap₂ (λ c q. statistics_fit rows (column_of c (name_at names i)) q) f o

      pub judged_pass : not r ≡ false → judged i j ≡ judged (i + 1) (j + 1)
      unfolding judged
      judged_pass p = matched_pass _ _ _ _ e y i j h (column_live_lem k) m (passed fit_is p)

      pub judged_fail : not r ≡ true → judged i j ≡ false
      unfolding judged
      judged_fail p = matched_fail _ _ _ _ e y i j h (column_live_lem k) m (failed fit_is p)

-- the columns of the file's table stand together, and so do its statistics
pub judged_start : (columns names : List ℕ) (n : ℕ) (statistics : List ℕ) (m : ℕ) (file : DataFileRecord) {a e x y : ℕ}
    → Together (field column_size column_table_word columns) n file.table.0 a e → Together (field statistics_size statistics_data_file_word statistics) m file.id.0 x y
    → file_statistics_sound (columns_in columns names n) (statistics_in statistics m) (data_file_of file) ≡ judged columns names (statistics_at statistics) file.record_count file.begin.0 e y a x
unfolding field columns_at file_statistics statistics_wanted file_statistics_sound
judged_start columns names n statistics m file {a} {e} {x} {y} f g =
    judged_all columns names (statistics_at statistics) _ _ e y a x (filter_block (column_at columns names) (λ c. c.body.table) file.table.0 n a e f (live file.begin.0))
    (filter_key (statistics_at statistics) (λ s. s.data_file) file.id.0 m x y g)

-- the test of a file that was read, and its outcome
pub file_read : (cs : List (Versioned Column)) (xs : List Statistics) {f g : DataFileRecord} {b t : Bool}
    → f ≡ g → b ≡ file_statistics_sound cs xs (data_file_of f) → b ≡ t → file_statistics_sound cs xs (data_file_of g) ≡ t
file_read cs xs e h k = sym (rw e at h) ∙ k

-- a file of that id is there just where it has a place
pub on_file_lem : (files : List ℕ) (n : ℕ) (v : Statistics) {x : ℕ} {r : Option ℕ} → x ≡ v.data_file → r ≡ place_of data_file_size data_file_id_word files n x
    → statistics_on_file (data_files_in files n) v ≡ is_at r
unfolding field statistics_on_file
on_file_lem files n v {x} e f =
    rw (← e, f) (any_maps _ (λ y. eqb y x) (data_file_at files) (field data_file_size data_file_id_word files) (range 0 n) (λ j. refl)
    ∙ any_place (λ y. eqb y x) 0 (fields data_file_size data_file_id_word files n))
