-- The files that go, from a data file and a delete file on: the one of the lower id comes first, since both tables ascend by id.
use Prim.Native.Nat.{ℕ, ◌+◌, ◌*◌, ◌≤◌, ◌<◌}
use mathlib.Core.Path.{◌≡◌, refl, sym, ap, ◌∙◌}
use mathlib.Core.Bool.{Bool, true, false, not}
use mathlib.Core.List.{List, ◌∷◌, [], map, flat_map}
use native.Mathlib.Omega.{arith}
use lib.Dec.{ltb}
use lib.ListN.{length}
use Rattle.lists.specs.Lists.{chained, first_next}
use Rattle.lists.specs.Runs.{field, fields, overwrite, at as layout_at}
use Rattle.lists.proofs.Merges.{merged, merged_start, merged_first, merged_second, merged_skip_first, merged_skip_second, merged_end, first_next_lem, second_next}
use Rattle.lists.proofs.Writes.{laying, laying_one, laying_room, laying_done}
use Rattle.lists.proofs.Search.{ascending_weakly, never_falling_lem}
use Rattle.lists.proofs.Selections.{flat_map_map}
use Rattle.layout.specs.Fields.{data_file_size, data_file_id_word, data_file_begin_word, delete_file_size, delete_file_id_word, delete_file_begin_word, scheduled_size}
use Rattle.layout.specs.declared.record.DataFileRecord.{DataFileRecord}
use Rattle.layout.specs.declared.record.DeleteFileRecord.{DeleteFileRecord}
use Rattle.layout.specs.Records.{scheduled_words, data_file_layout, delete_file_layout}
use Rattle.layout.specs.Catalog.{Scheduled, scheduled_record}
use Rattle.expiry.specs.Remaining.{stays}
use Rattle.expiry.specs.Removed.{data_file_scheduled, delete_file_scheduled, data_file_goes, delete_file_goes, removed_files, Files, ScheduledMore}

-- the words of a file, scheduled
abbrev file_words : Scheduled → List ℕ
file_words x = scheduled_words (scheduled_record x)

words_size : (x : Scheduled) → length (file_words x) ≡ scheduled_size
unfolding scheduled_words
words_size x = refl

words_of_files : (xs : List Scheduled) → flat_map scheduled_words (map scheduled_record xs) ≡ flat_map file_words xs
words_of_files xs = flat_map_map file_words scheduled_words scheduled_record xs (λ x m. refl)

module _ (data_run : List ℕ) (n : ℕ) (delete_run : List ℕ) (k : ℕ) (ids : List ℕ) (time : ℕ) where
  files : ℕ → ℕ → List Scheduled
  files i j = merged (λ x. x.file) (data_file_scheduled data_run time) (data_file_goes data_run ids) n (delete_file_scheduled delete_run time) (delete_file_goes delete_run ids) k i j

  files_start : removed_files data_run n delete_run k ids time ≡ files 0 0
  unfolding files removed_files
  files_start = merged_start (λ x. x.file) (data_file_scheduled data_run time) (data_file_goes data_run ids) n (delete_file_scheduled delete_run time) (delete_file_goes delete_run ids) k

  files_end : (i j : ℕ) → n ≤ i → k ≤ j → files i j ≡ []
  unfolding files
  files_end i j h l = merged_end (λ x. x.file) (data_file_scheduled data_run time) (data_file_goes data_run ids) n (delete_file_scheduled delete_run time) (delete_file_goes delete_run ids) k i j h l

  module _ (a : chained ltb (fields data_file_size data_file_id_word data_run n) ≡ true) (b : chained ltb (fields delete_file_size delete_file_id_word delete_run k) ≡ true) (i j : ℕ) {r : Bool}
      (e : r ≡ first_next (field data_file_size data_file_id_word data_run) i n (field delete_file_size delete_file_id_word delete_run) j k) where
    -- the next is a data file
    module _ (t : r ≡ true) where
      data_below : i < n
      data_below = (first_next_lem (field data_file_size data_file_id_word data_run) (field delete_file_size delete_file_id_word delete_run) i n j k b (sym e ∙ t)).0

      data_goes : {l : Bool} → l ≡ stays data_file_size data_file_begin_word data_run ids i → not l ≡ true → files i j ≡ data_file_scheduled data_run time i ∷ files (i + 1) j
      unfolding files field
      data_goes s h =
          merged_first (λ x. x.file) (data_file_scheduled data_run time) (data_file_goes data_run ids) n (delete_file_scheduled delete_run time) (delete_file_goes delete_run ids) k i j data_below
          (never_falling_lem (field data_file_size data_file_id_word data_run) n (ascending_weakly _ a) i)
          (first_next_lem (field data_file_size data_file_id_word data_run) (field delete_file_size delete_file_id_word delete_run) i n j k b (sym e ∙ t)).1
          (sym (ap not s) ∙ h)

      data_stays : {l : Bool} → l ≡ stays data_file_size data_file_begin_word data_run ids i → not l ≡ false → files i j ≡ files (i + 1) j
      unfolding files
      data_stays s h =
          merged_skip_first (λ x. x.file) (data_file_scheduled data_run time) (data_file_goes data_run ids) n (delete_file_scheduled delete_run time) (delete_file_goes delete_run ids) k i j data_below (sym (ap not s) ∙ h)

    -- the next is a delete file
    module _ (h : i ≤ n) (g : j ≤ k) (l : i + j < n + k) (t : r ≡ false) where
      delete_below : j < k
      delete_below = (second_next (field data_file_size data_file_id_word data_run) (field delete_file_size delete_file_id_word delete_run) i n j k a h g l (sym e ∙ t)).0

      delete_goes : {z : Bool} → z ≡ stays delete_file_size delete_file_begin_word delete_run ids j → not z ≡ true → files i j ≡ delete_file_scheduled delete_run time j ∷ files i (j + 1)
      unfolding files field
      delete_goes s d =
          merged_second (λ x. x.file) (data_file_scheduled data_run time) (data_file_goes data_run ids) n (delete_file_scheduled delete_run time) (delete_file_goes delete_run ids) k i j delete_below
          (never_falling_lem (field delete_file_size delete_file_id_word delete_run) k (ascending_weakly _ b) j)
          (second_next (field data_file_size data_file_id_word data_run) (field delete_file_size delete_file_id_word delete_run) i n j k a h g l (sym e ∙ t)).1
          (sym (ap not s) ∙ d)

      delete_stays : {z : Bool} → z ≡ stays delete_file_size delete_file_begin_word delete_run ids j → not z ≡ false → files i j ≡ files i (j + 1)
      unfolding files
      delete_stays s d =
          merged_skip_second (λ x. x.file) (data_file_scheduled data_run time) (data_file_goes data_run ids) n (delete_file_scheduled delete_run time) (delete_file_goes delete_run ids) k i j delete_below (sym (ap not s) ∙ d)

-- what scheduling comes to with `at` records used, from the data file i and the delete file j on
pub scheduling : List ℕ → ℕ → List ℕ → ℕ → List ℕ → ℕ → List ℕ → ℕ → ℕ → ℕ → List ℕ × ℕ
scheduling data_run n delete_run k ids time u at i j = laying file_words scheduled_size (files data_run n delete_run k ids time i j) u at

-- what a turn stands on: there is room for all files that go, and what is left to do from i and j on comes to the whole
pub record Turn (data_run : List ℕ) (n : ℕ) (delete_run : List ℕ) (k : ℕ) (left : List ℕ) (time : ℕ) (u₀ : List ℕ) (used : ℕ) (u : List ℕ) (at i j : ℕ) : Type 0 where
  pub tables : Files data_run n delete_run k
  pub room : scheduled_size * (used + length (removed_files data_run n delete_run k left time)) ≤ length u₀
  pub data_files_left : i ≤ n
  pub delete_files_left : j ≤ k
  pub same_length : length u ≡ length u₀
  pub comes_to : scheduling data_run n delete_run k left time u₀ used 0 0 ≡ scheduling data_run n delete_run k left time u at i j

module _ {data_run : List ℕ} {n : ℕ} {delete_run : List ℕ} {k : ℕ} {left : List ℕ} {time : ℕ} {u₀ : List ℕ} {used : ℕ} {u : List ℕ} {at i j : ℕ}
    (T : Turn data_run n delete_run k left time u₀ used u at i j) where
  data_ids : chained ltb (fields data_file_size data_file_id_word data_run n) ≡ true
  data_ids = T.tables.data_files_by_id.ascending

  delete_ids : chained ltb (fields delete_file_size delete_file_id_word delete_run k) ≡ true
  delete_ids = T.tables.delete_files_by_id.ascending

  next_fits : {x : Scheduled} {xs : List Scheduled} → files data_run n delete_run k left time i j ≡ x ∷ xs → scheduled_size * at + scheduled_size ≤ length u
  unfolding scheduling
  next_fits e =
      omega (arith, T.room, T.same_length, ap length (files_start data_run n delete_run k left time), laying_room file_words scheduled_size (files data_run n delete_run k left time 0 0) u₀ u used at T.comes_to e)

  module _ {r : Bool} (e : r ≡ first_next (field data_file_size data_file_id_word data_run) i n (field delete_file_size delete_file_id_word delete_run) j k) where
    -- the next is a data file
    module _ (t : r ≡ true) where
      pub next_data_file : i < n
      next_data_file = data_below data_run n delete_run k left time data_ids delete_ids i j e t

      module _ {l : Bool} (s : l ≡ stays data_file_size data_file_begin_word data_run left i) where
        pub data_file_fits : not l ≡ true → scheduled_size * at + scheduled_size ≤ length u
        data_file_fits h = next_fits (data_goes data_run n delete_run k left time data_ids delete_ids i j e t s h)

        -- it goes: it is scheduled
        pub data_file_scheduled_lem : not l ≡ true → {r : DataFileRecord} {v : List ℕ} → r ≡ layout_at data_file_layout data_run i
            → v ≡ overwrite u (scheduled_size * at) (file_words (record { file = r.id.0; uuid = r.uuid; start = time })) → length v ≡ length u
            → Turn data_run n delete_run k left time u₀ used v (at + 1) (i + 1) j
        unfolding scheduling
        data_file_scheduled_lem h {v = v} g d x = record {
          tables = T.tables;
          room = T.room;
          data_files_left = omega (arith, next_data_file);
          delete_files_left = T.delete_files_left;
          same_length = x ∙ T.same_length;
          comes_to = T.comes_to ∙ laying_one file_words scheduled_size u v at (data_goes data_run n delete_run k left time data_ids delete_ids i j e t s h)
              (words_size (data_file_scheduled data_run time i)) (omega (arith, data_file_fits h)) (d ∙ ap (λ r. overwrite u (scheduled_size * at) (file_words (record { file = r.id.0; uuid = r.uuid; start = time }))) g);
        }

        -- it stays
        pub data_file_kept : not l ≡ false → Turn data_run n delete_run k left time u₀ used u at (i + 1) j
        unfolding scheduling
        data_file_kept h = record {
          tables = T.tables;
          room = T.room;
          data_files_left = omega (arith, next_data_file);
          delete_files_left = T.delete_files_left;
          same_length = T.same_length;
          comes_to = T.comes_to ∙ ap (λ xs. laying file_words scheduled_size xs u at) (data_stays data_run n delete_run k left time data_ids delete_ids i j e t s h);
        }

    -- the next is a delete file
    module _ (z : i + j < n + k) (t : r ≡ false) where
      pub next_delete_file : j < k
      next_delete_file = delete_below data_run n delete_run k left time data_ids delete_ids i j e T.data_files_left T.delete_files_left z t

      module _ {l : Bool} (s : l ≡ stays delete_file_size delete_file_begin_word delete_run left j) where
        pub delete_file_fits : not l ≡ true → scheduled_size * at + scheduled_size ≤ length u
        delete_file_fits d = next_fits (delete_goes data_run n delete_run k left time data_ids delete_ids i j e T.data_files_left T.delete_files_left z t s d)

        -- it goes: it is scheduled
        pub delete_file_scheduled_lem : not l ≡ true → {r : DeleteFileRecord} {v : List ℕ} → r ≡ layout_at delete_file_layout delete_run j
            → v ≡ overwrite u (scheduled_size * at) (file_words (record { file = r.id.0; uuid = r.uuid; start = time })) → length v ≡ length u
            → Turn data_run n delete_run k left time u₀ used v (at + 1) i (j + 1)
        unfolding scheduling
        delete_file_scheduled_lem h {v = v} g d x = record {
          tables = T.tables;
          room = T.room;
          data_files_left = T.data_files_left;
          delete_files_left = omega (arith, next_delete_file);
          same_length = x ∙ T.same_length;
          comes_to = T.comes_to ∙ laying_one file_words scheduled_size u v at (delete_goes data_run n delete_run k left time data_ids delete_ids i j e T.data_files_left T.delete_files_left z t s h)
              (words_size (delete_file_scheduled delete_run time j)) (omega (arith, delete_file_fits h)) (d ∙ ap (λ r. overwrite u (scheduled_size * at) (file_words (record { file = r.id.0; uuid = r.uuid; start = time }))) g);
        }

        -- it stays
        pub delete_file_kept : not l ≡ false → Turn data_run n delete_run k left time u₀ used u at i (j + 1)
        unfolding scheduling
        delete_file_kept h = record {
          tables = T.tables;
          room = T.room;
          data_files_left = T.data_files_left;
          delete_files_left = omega (arith, next_delete_file);
          same_length = T.same_length;
          comes_to = T.comes_to ∙ ap (λ xs. laying file_words scheduled_size xs u at) (delete_stays data_run n delete_run k left time data_ids delete_ids i j e T.data_files_left T.delete_files_left z t s h);
        }

  -- no file is left
  pub scheduling_done : n ≤ i → k ≤ j → ScheduledMore (removed_files data_run n delete_run k left time) u₀ used at u
  unfolding scheduling
  scheduling_done h g =
      let d = laying_done file_words scheduled_size (files data_run n delete_run k left time 0 0) u₀ u used at T.comes_to (files_end data_run n delete_run k left time i j h g) in
      let s = files_start data_run n delete_run k left time in
      record {
        count = d.0 ∙ ap (λ xs. used + length xs) (sym s);
        words = d.1 ∙ ap (overwrite u₀ (scheduled_size * used)) (sym (words_of_files (removed_files data_run n delete_run k left time) ∙ ap (flat_map file_words) s));
      }
