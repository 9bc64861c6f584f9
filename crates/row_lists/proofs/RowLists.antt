-- Rows of a table: the positions deleted in each file are those of the one delete file found, and files' rows follow each other.
use Rattle.std.specs.Prelude.{None, Option, Some}
use Prim.Native.Nat.{ℕ, suc, ◌+◌, ◌-◌, ◌≤◌, ◌<◌}
use mathlib.Core.Path.{◌≡◌, refl, sym, ap, ◌∙◌}
use mathlib.Core.Bool.{Bool, true, false}
use mathlib.Core.List.{List, [], ◌∷◌, map, flat_map, append-nil}
use native.Mathlib.Omega.{arith}
use native.Mathlib.Nat.{add-zero, zero-add}
use lib.ListN.{length, get_or, take, drop, length-append, length-take, length-drop}
use lib.Seq.{drop-drop}
use borrow.Rule.Slice.PartMut.{put_mid}
use Rattle.lists.specs.Lists.{range, filter}
use Rattle.lists.specs.Runs.{from, overwrite}
use Rattle.lists.proofs.Runs.{record_fits}
use Rattle.lists.proofs.Places.{all-at}
use Rattle.lists.proofs.Loops.{from_all, filter_pass, filter_fail, filter_end}
use Rattle.lists.proofs.Writes.{laid, laid_fail, laid_room, laid_pass, laid_done}
use Rattle.layout.specs.declared.outcome.Counts.{Counts}
use Rattle.layout.specs.Fields.{data_file_size}
use Rattle.layout.specs.Catalog.{Versioned, DataFile, DeleteFile}
use Rattle.layout.specs.Words.{data_file_at, data_files_in}
use Rattle.ducklake.specs.Liveness.{data_files_at, delete_files_at, deleted_at}
use Rattle.ducklake.specs.Readings.{file_rows}
use Rattle.ducklake.specs.Soundness.{data_file_in_range}
use Rattle.call_laws.proofs.Ready.{reflects_data_file}
use Rattle.lookup.specs.declared.positions.DeleteFiles.{DeleteFiles}
use Rattle.lookup.specs.DeleteFiles.{file_at, files_of}
use Rattle.scans.specs.Deletions.{from_one, DeleteFilesFound}
use Rattle.scans.specs.Filters.{in_table}
use Rattle.row_lists.specs.Readable.{RowsLocated, RowsReadable}
use Rattle.row_lists.specs.Rows.{rows_but, deleted_by, rows_of_file, FileRowsLocated}
use Rattle.scans.proofs.FileLists.{sought, delete_files_at_lem, no_delete_files, place-within}

-- the positions of the one delete file
deleted_found : (d : DeleteFiles) (s file : ℕ) → length (delete_files_at (files_of d) s file) ≤ 1 → (r : Option ℕ) → sought d.records.now d.positions.now d.n s file ≡ r
    → deleted_at (files_of d) s file ≡ deleted_by d (from_one r)
unfolding deleted_at flat_map
deleted_found d s file one (Some j) e = let l = delete_files_at_lem d.records.now d.positions.now d.n s file e in first l.0 l.1
  where
    first : (ds : List (Versioned DeleteFile)) → delete_files_at (files_of d) s file ≡ file_at d j ∷ ds
        → deleted_at (files_of d) s file ≡ deleted_by d (suc j)
    first [] q = rw q (append-nil (deleted_by d (suc j)))
    first (x ∷ xs) q = absurd (omega (arith, one, ap length q))
deleted_found d s file one None e = rw (no_delete_files d.records.now d.positions.now d.n s file e) refl

module _ {files : List ℕ} {n : ℕ} {d : DeleteFiles} {s : ℕ} {places : List ℕ} (L : RowsLocated files n d s places) where
  module _ (k : ℕ) (h : k < n) where
    deleted_is : deleted_at (files_of d) s (data_file_at files k).id ≡ deleted_by d (get_or places k 0)
    deleted_is =
        deleted_found d s (data_file_at files k).id (L.deletes.single (data_file_at files k).id) (sought d.records.now d.positions.now d.n s (data_file_at files k).id) refl
        ∙ ap (deleted_by d) (sym (L.found.found k h d.positions.now))

    -- the rows of the data file k, as they are read
    pub rows_are : rows_of_file files k d (get_or places k 0) ≡ file_rows (files_of d) s (data_file_at files k)
    unfolding file_rows
    rows_are = ap (rows_but (data_file_at files k).body.row_id_start (data_file_at files k).body.record_count) (sym deleted_is)

    pub file_located : FileRowsLocated files k d (get_or places k 0)
    file_located =
        let r = (reflects_data_file (data_file_at files k)).to (all-at (data_file_at files) data_file_in_range n k L.ranges h) in
        record {
          lent = record_fits data_file_size h L.lent;
          within = place-within files d.records.now places n d.n s L.found k h;
          fit = record {
            start_within = r.row_id_start;
            count_within = r.record_count;
            ascending = rw deleted_is at (L.deletes.ascending k h);
            below = rw deleted_is at (L.deletes.below k h);
          };
        }

-- delete files as they were lent
pub rows_located : (d : DeleteFiles) {files run positions : List ℕ} {c : Counts} {s : ℕ} {places : List ℕ} → RowsReadable files run positions c s
    → DeleteFilesFound files c.data_files run c.delete_files s places
    → (d.records.now ≡ run) × (d.positions.now ≡ positions) × (d.n ≡ c.delete_files)
    → RowsLocated files c.data_files d s places
rows_located d p f e = record {
  lent = p.by_id.lent;
  few = p.few;
  ranges = p.ranges;
  deletes = rw (e.0, e.1, e.2) p.deletes;
  found = rw (e.0, e.2) f;
}

-- a loop that adds up how many words g makes of each element that passes
module _ {A : Type 0} (f : ℕ → A) (p : A → Bool) (n : ℕ) (g : A → List ℕ) where
  pub summed : ℕ → ℕ → ℕ
  unfolding filter flat_map
  summed t i = t + length (flat_map g (filter p (from f i n)))

  pub summed_start : length (flat_map g (filter p (map f (range 0 n)))) ≡ summed 0 0
  unfolding summed range filter
  summed_start = rw (zero-add, from_all f n) refl

  pub summed_pass : (t i : ℕ) {l : ℕ} → i < n → p (f i) ≡ true → l ≡ length (g (f i)) → summed t i ≡ summed (t + l) (i + 1)
  unfolding summed flat_map
  summed_pass t i h e q = rw (filter_pass f p i n h e, length-append, q) (omega arith)

  pub summed_fail : (t i : ℕ) → i < n → p (f i) ≡ false → summed t i ≡ summed t (i + 1)
  unfolding summed
  summed_fail t i h e = rw (filter_fail f p i n h e) refl

  pub summed_end : (t i : ℕ) → n ≤ i → summed t i ≡ t
  unfolding summed flat_map
  summed_end t i h = rw (filter_end f p i n h, add-zero) refl

-- the c words from k on: as long as the rows to be written there, and filled whole by them
pub part_length : (w : List ℕ) (k : ℕ) {c l : ℕ} → c ≡ l → k + c ≤ length w → length (take (k + c - k) (drop k w)) ≡ l
part_length w k q h = simp (length-take, length-drop) (omega arith)

pub part_filled : (w : List ℕ) (k : ℕ) {c : ℕ} {new rows : List ℕ} → c ≡ length rows → new ≡ rows → put_mid k (k + c - k) w new ≡ overwrite w k rows
unfolding overwrite
part_filled w k {c} {new} {rows} q r = let l : k + c - k ≡ length rows = omega arith in rw (r, l, drop-drop (length rows) k w) refl

module _ (files : List ℕ) (n : ℕ) (d : DeleteFiles) (table s : ℕ) where
  abbrev rows : Versioned DataFile → List ℕ
  rows = file_rows (files_of d) s

  abbrev answer : List ℕ
  answer = flat_map rows (data_files_at (data_files_in files n) s table)

  -- the loop that counts them, and the loop that writes them behind each other
  abbrev pub Summing : ℕ → ℕ → Type 0
  Summing t i = length answer ≡ summed (data_file_at files) (in_table table s) n rows t i

  abbrev pub Writing : List ℕ → List ℕ → ℕ → ℕ → Type 0
  Writing area w k i = laid (data_file_at files) (in_table table s) n rows area 0 0 ≡ laid (data_file_at files) (in_table table s) n rows w k i

  answer_is : flat_map rows (filter (in_table table s) (data_files_in files n)) ≡ answer
  unfolding data_files_at
  answer_is = refl

  pub summing_start : Summing 0 0
  summing_start = sym (ap length answer_is) ∙ summed_start (data_file_at files) (in_table table s) n rows

  pub summing_end : (t i : ℕ) → Summing t i → n ≤ i → t ≡ length answer
  summing_end t i e h = sym (e ∙ summed_end (data_file_at files) (in_table table s) n rows t i h)

  pub writing_end : (area w : List ℕ) (k i : ℕ) → Writing area w k i → n ≤ i → length answer ≤ length area → w ≡ overwrite area 0 answer
  writing_end area w k i e h o =
      (laid_done (data_file_at files) (in_table table s) n rows area w k i e h).1 ∙ ap (overwrite area 0) answer_is

  -- as they are read
  module _ {places : List ℕ} (L : RowsLocated files n d s places) {i : ℕ} (h : i < n) {b : Bool} (r : b ≡ in_table table s (data_file_at files i)) where
    abbrev read : List ℕ
    read = rows_of_file files i d (get_or places i 0)

    pub summing_pass : (t : ℕ) {c : ℕ} → Summing t i → b ≡ true → c ≡ length read → Summing (t + c) (i + 1)
    summing_pass t e y q = e ∙ summed_pass (data_file_at files) (in_table table s) n rows t i h (sym r ∙ y) (q ∙ ap length (rows_are L i h))

    pub summing_fail : (t : ℕ) → Summing t i → b ≡ false → Summing t (i + 1)
    summing_fail t e y = e ∙ summed_fail (data_file_at files) (in_table table s) n rows t i h (sym r ∙ y)

    module _ (area w : List ℕ) (k : ℕ) (l : length w ≡ length area) (o : length answer ≤ length area) (e : Writing area w k i) where
      -- as many words as were counted have room behind those written
      pub writing_fits : b ≡ true → {c : ℕ} → c ≡ length read → k + c ≤ length w
      writing_fits y q =
          omega (
            arith,
            q,
            ap length (rows_are L i h),
            laid_room (data_file_at files) (in_table table s) n rows area w k i (length w) (omega (arith, o, l, ap length answer_is)) e refl h (sym r ∙ y),
          )

      pub writing_pass : {v : List ℕ} {c : ℕ} → b ≡ true → c ≡ length read → v ≡ overwrite w k read → Writing area v (k + c) (i + 1)
      writing_pass {v} y q u =
          laid_pass (data_file_at files) (in_table table s) n rows area w v k i (omega (arith, o, l, ap length answer_is)) e refl h (sym r ∙ y)
          (q ∙ ap length (rows_are L i h)) (u ∙ ap (overwrite w k) (rows_are L i h))

      pub writing_fail : b ≡ false → Writing area w k (i + 1)
      writing_fail y = e ∙ laid_fail (data_file_at files) (in_table table s) n rows w k i refl h (sym r ∙ y)
