-- What is registered is below the next ids.
use Prim.Native.Nat.{ℕ, ◌≤◌, ◌<◌}
use mathlib.Core.Path.{refl}
use mathlib.Core.List.{map}
use native.Mathlib.Omega.{arith}
use lib.Dec.{ltb, eqb}
use borrow.Author.Tests.{ltb-true, eq-eqb}
use Rattle.lists.specs.Lists.{count}
use Rattle.lists.proofs.Tests.{if}
use Rattle.lists.proofs.Members.{In, in_left, in_right, in_map}
use Rattle.lists.proofs.Counts.{count-pos}
use Rattle.layout.specs.Catalog.{Versioned, Column, DataFile, DeleteFile, Statistics, Catalog}
use Rattle.ducklake.specs.Liveness.{latest}
use Rattle.ducklake.specs.Soundness.{ids_of_files, file_ids}
use Rattle.ducklake.proofs.facts.Facts.{Sound}

module _ {C : Catalog} (S : Sound C) where
  file_below : (k : ℕ) → In k (file_ids C) → k < (latest C).next_file_id
  file_below k m =
      if (ltb k (latest C).next_file_id) (λ b. ltb-true k (latest C).next_file_id b)
      (λ b. let a = count-pos (λ i. eqb i k) m (eq-eqb k k refl) in
      let c : count (λ i. eqb i k) (file_ids C) ≤ 0 = rw b at (S.files.ids k) in absurd (omega arith))

  pub data_file_below : (f : Versioned DataFile) → In f C.data_files → f.id < (latest C).next_file_id
  unfolding ids_of_files
  data_file_below f m = file_below f.id (in_left _ (in_map (λ f. f.id) m))

  pub delete_file_below : (e : Versioned DeleteFile) → In e C.delete_files → e.id < (latest C).next_file_id
  unfolding ids_of_files
  delete_file_below e m = file_below e.id (in_right (map (λ f. f.id) C.data_files) (in_left _ (in_map (λ e. e.id) m)))

  pub column_below : (c : Versioned Column) → In c C.columns → c.body.table < (latest C).next_catalog_id
  column_below c m = let r = S.nest.columns.at c m in omega (arith, S.files.tables_below.at r.0 r.1, r.2.same)

  pub statistics_below : (x : Statistics) → In x C.statistics → x.data_file < (latest C).next_file_id
  statistics_below x m = let r = S.statistics.on_file.at x m in omega (arith, data_file_below r.0 r.1, r.2)
