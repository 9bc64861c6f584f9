-- What the answers of files and of filtered files come to, by the runs that they are read in.
use Rattle.std.specs.Prelude.{None, Option, Some}
use Prim.Native.Nat.{ℕ}
use mathlib.Core.Path.{◌≡◌, refl, sym, ap}
use mathlib.Core.Bool.{true}
use mathlib.Core.List.{List, flat_map}
use lib.IntN.{ℤ}
use Rattle.lists.proofs.Selections.{filter_all}
use Rattle.layout.specs.declared.outcome.Counts.{Counts}
use Rattle.layout.specs.Words.{Words, load, data_files_in, delete_files_in, statistics_in}
use Rattle.ducklake.specs.Liveness.{data_files_at}
use Rattle.ducklake.specs.Readings.{files, filtered_files, listed, query_answer}
use Rattle.ducklake.specs.Calls.{query_at, reading_answer}
use Rattle.scans.specs.declared.filter.Filter.{Filter}
use Rattle.scans.specs.Filters.{files_read}

module _ (w : Words) (c : Counts) (s table : ℕ) {fs ds qs : List ℕ} (e : w.data_files ≡ fs) (f : w.delete_files ≡ ds) (g : w.statistics ≡ qs) where
  abbrev answer : Option Filter → List ℕ
  answer filter =
      flat_map (listed (delete_files_in ds w.positions c.delete_files) s) (files_read filter (statistics_in qs c.statistics) (data_files_in fs c.data_files) s table)

  pub files_answer : reading_answer (load w c) (query_at s (files table)) ≡ answer None
  unfolding reading_answer query_answer load
  files_answer =
      rw (← e, ← f)
      (ap (flat_map (listed (delete_files_in w.delete_files w.positions c.delete_files) s))
      (sym (filter_all (λ f. true) (data_files_at (data_files_in w.data_files c.data_files) s table) (λ f m. refl))))

  pub filtered_answer : (column : ℕ) {scalar value : ℤ} → value ≡ scalar → reading_answer (load w c) (query_at s (filtered_files table column scalar)) ≡ answer (Some (record { column = column; scalar = value }))
  unfolding reading_answer query_answer load
  filtered_answer column h = rw (h, ← e, ← f, ← g) refl
