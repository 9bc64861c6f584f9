-- What sound tables give the reading of rows, and what its answer comes to.
use Prim.Native.Nat.{ℕ, ◌<◌}
use mathlib.Core.Path.{◌≡◌, refl, sym, ap, ◌∙◌}
use mathlib.Core.Logic.{◌⊎◌, inl, inr}
use mathlib.Core.Bool.{true, ◌&&◌}
use mathlib.Core.List.{List, [], ◌∷◌, flat_map, append-nil}
use native.Mathlib.Omega.{arith}
use lib.Dec.{eqb}
use lib.ListN.{length}
use borrow.Author.Tests.{eqb-true}
use Rattle.lists.specs.Lists.{range, all, chained}
use Rattle.lists.proofs.Tests.{either, both}
use Rattle.lists.proofs.Members.{in_all, in_map_of, in_range_lem}
use Rattle.layout.specs.declared.outcome.Counts.{Counts}
use Rattle.layout.specs.Catalog.{Versioned, DeleteFile}
use Rattle.layout.specs.Words.{Words, load, positions_at, data_file_at, data_files_in, delete_file_at, delete_files_in}
use Rattle.ducklake.specs.Liveness.{live, data_files_at, delete_files_at, deleted_at}
use Rattle.ducklake.specs.Soundness.{data_file_in_range, sound}
use Rattle.ducklake.specs.Readings.{Query, file_rows, query_answer}
use Rattle.ducklake.specs.Calls.{query_at, reading_answer}
use Rattle.call_laws.proofs.Ready.{Ready, ready, one_delete_file, positions_ascend_lem, positions_below}
use Rattle.readings.proofs.Found.{data_files_by_id_lem}
use Rattle.row_lists.specs.Readable.{DeletesFit, RowsReadable}

module _ {w : Words} {c : Counts} (R : Ready w c) where
  abbrev ds : List (Versioned DeleteFile)
  ds = delete_files_in w.delete_files w.positions c.delete_files

  by_one : (s file j : ℕ) {d : Versioned DeleteFile} → d ≡ delete_file_at w.delete_files w.positions j → (eqb d.body.data_file file && live s d) ≡ true → delete_files_at ds s file ≡ d ∷ []
      → ((delete_file_at w.delete_files w.positions j).body.data_file ≡ file) × (deleted_at ds s file ≡ positions_at w.delete_files w.positions j)
  unfolding deleted_at flat_map
  by_one s file j {d} e t q = (
    sym (ap (λ (x : Versioned DeleteFile). x.body.data_file) e) ∙ eqb-true d.body.data_file file (both (eqb d.body.data_file file) (live s d) t).0,
    rw q (append-nil d.body.positions) ∙ ap (λ (x : Versioned DeleteFile). x.body.positions) e,
  )

  -- none is deleted, or the positions of one delete file are
  deleted : (s file : ℕ) → (deleted_at ds s file ≡ [])
      ⊎ ((j : ℕ) × (j < c.delete_files) × ((delete_file_at w.delete_files w.positions j).body.data_file ≡ file) × (deleted_at ds s file ≡ positions_at w.delete_files w.positions j))
  unfolding deleted_at flat_map
  deleted s file =
      either (one_delete_file R s file) (λ e. inl (rw e refl))
      (λ d. let m = in_map_of (delete_file_at w.delete_files w.positions) (range 0 c.delete_files) d.1 in
      let o = by_one s file m.0 m.2 d.2.0 d.2.1 in
      inr (m.0, omega (arith, (in_range_lem 0 c.delete_files m.1).1), o.0, o.1))

  fit : (s : ℕ) → DeletesFit w.data_files c.data_files w.delete_files w.positions c.delete_files s
  unfolding chained all
  fit s = record {
    single = λ file. either (one_delete_file R s file) (λ e. omega (arith, ap length e)) (λ d. omega (arith, ap length d.2.1));
    ascending = λ k h. either (deleted s (data_file_at w.data_files k).id) (λ e. rw e refl) (λ d. rw d.3 (positions_ascend_lem R d.0 d.1));
    below = λ k h. either (deleted s (data_file_at w.data_files k).id) (λ e. rw e refl) (λ d. rw d.3 (positions_below R d.0 d.1 k h (sym d.2)));
  }

in_ranges : (w : Words) (c : Counts) → Ready w c → all data_file_in_range (data_files_in w.data_files c.data_files) ≡ true
unfolding load
in_ranges w c R = in_all _ _ (λ f m. R.facts.ranges.data_files.at f m)

pub rows_readable : (w : Words) (c : Counts) (s : ℕ) {fs ds ps : List ℕ} → sound w c ≡ true → w.data_files ≡ fs → w.delete_files ≡ ds → w.positions ≡ ps → RowsReadable fs ds ps c s
rows_readable w c s h e f g =
    let R = ready w c h in
    rw (← e, ← f, ← g)
    (record {
      by_id = data_files_by_id_lem w c h refl;
      few = R.few.data_files;
      few_deletes = R.few.delete_files;
      ranges = in_ranges w c R;
      held = record { lent = R.held.delete_files; within = omega (arith, R.added, R.held.positions) };
      within = record { lent = R.held.delete_files; within = omega (arith, R.added, R.few.positions) };
      deletes = fit R s;
    })

pub rows_answer : (w : Words) (c : Counts) (s table : ℕ) {fs ds ps : List ℕ} → w.data_files ≡ fs → w.delete_files ≡ ds → w.positions ≡ ps
    → reading_answer (load w c) (query_at s (Query.rows table)) ≡ flat_map (file_rows (delete_files_in ds ps c.delete_files) s) (data_files_at (data_files_in fs c.data_files) s table)
unfolding reading_answer query_answer load
rows_answer w c s table e f g = rw (← e, ← f, ← g) refl
