-- File lists: what the delete file found tells of a data file's two words, and the loop that lays them.
use Rattle.std.specs.Prelude.{None, Option, Some}
use Prim.Native.Nat.{ℕ, zero, suc, ◌+◌, ◌*◌, ◌≤◌, ◌<◌}
use mathlib.Core.Path.{◌≡◌, refl, sym, ap, ◌∙◌}
use mathlib.Core.Bool.{Bool, true, false, ◌&&◌, and-true, and-false}
use mathlib.Core.List.{List, [], ◌∷◌, map, flat_map}
use native.Mathlib.Omega.{arith}
use lib.ListN.{length, get_or, set, length-set}
use Rattle.lists.specs.Lists.{range, place, filter}
use Rattle.lists.specs.Runs.{overwrite}
use Rattle.lists.proofs.Tests.{if}
use Rattle.lists.proofs.Runs.{overwrite_none, overwrite_set}
use Rattle.lists.proofs.Places.{found_tells}
use Rattle.lists.proofs.Selections.{filter_both}
use Rattle.lists.proofs.Writes.{flat_map_size, laid, laid_fail, laid_room, laid_pass, laid_done}
use Rattle.layout.specs.Catalog.{Versioned, DataFile, DeleteFile, Statistics}
use Rattle.layout.specs.Words.{data_file_at, data_files_in, delete_file_at, delete_files_in, statistics_in}
use Rattle.ducklake.specs.Liveness.{data_files_at, delete_files_at}
use Rattle.ducklake.specs.Readings.{or_absent, listed}
use Rattle.scans.specs.declared.filter.Filter.{Filter}
use Rattle.scans.specs.Filters.{listed_size}
use Rattle.scans.specs.Deletions.{deletes_in, from_one, delete_id_at, DeleteFilesFound}
use Rattle.scans.specs.Filters.{passes, in_table, is_read, files_read}

-- two words written one after the other
pub two_words : (w : List ℕ) (k : ℕ) {a b x y : ℕ} → k + listed_size ≤ length w → x ≡ a → y ≡ b → set (set w k x) (k + 1) y ≡ overwrite w k (a ∷ b ∷ [])
two_words w k {a} {b} h p q =
    rw (p, q)
    (sym (overwrite_set w k a (b ∷ []) (omega arith) ∙ (overwrite_set (set w k a) (k + 1) b [] (simp length-set (omega arith)) ∙ overwrite_none (set (set w k a) (k + 1) b) (k + 1 + 1))))

-- the first that passes leads those that pass
module _ {A : Type 0} (f : ℕ → A) (p : A → Bool) where
  filter_at : (n i : ℕ) {j : ℕ} → place p i (map f (range i n)) ≡ Some j → (xs : List A) × (filter p (map f (range i n)) ≡ f j ∷ xs)
  unfolding range place filter
  filter_at zero i e = let z : ◌≡◌ {A = ℕ} 0 1 = cc in absurd (omega arith)
  filter_at (suc n) i {j} e =
      if (p (f i))
      (λ b. let q : i ≡ j = cc (rw b at e) in rw b (filter p (map f (range (suc i) n)), ap (λ k. f k ∷ filter p (map f (range (suc i) n))) q))
      (λ b. rw b (filter_at n (suc i) (rw b at e)))

  filter_nowhere : (n i : ℕ) → place p i (map f (range i n)) ≡ None → filter p (map f (range i n)) ≡ []
  unfolding range place filter
  filter_nowhere zero i e = refl
  filter_nowhere (suc n) i e =
      if (p (f i))
      (λ b. let z : ◌≡◌ {A = ℕ} 0 1 = cc (rw b at e) in absurd (omega arith))
      (λ b. rw b (filter_nowhere n (suc i) (rw b at e)))

-- of m delete files, those of a data file that are live at s
module _ (run positions : List ℕ) (m s file : ℕ) where
  abbrev pub sought : Option ℕ
  sought = place (deletes_in s file) 0 (delete_files_in run positions m)

  pub delete_files_at_lem : {j : ℕ} → sought ≡ Some j → (ds : List (Versioned DeleteFile)) × (delete_files_at (delete_files_in run positions m) s file ≡ delete_file_at run positions j ∷ ds)
  unfolding delete_files_at
  delete_files_at_lem e = filter_at (delete_file_at run positions) (deletes_in s file) m 0 e

  pub no_delete_files : sought ≡ None → delete_files_at (delete_files_in run positions m) s file ≡ []
  unfolding delete_files_at
  no_delete_files e = filter_nowhere (delete_file_at run positions) (deletes_in s file) m 0 e

  delete_id_is : or_absent (map (λ d. d.id) (delete_files_at (delete_files_in run positions m) s file)) ≡ delete_id_at run (from_one sought)
  delete_id_is = by sought refl
    where
      by : (r : Option ℕ) → sought ≡ r → or_absent (map (λ d. d.id) (delete_files_at (delete_files_in run positions m) s file)) ≡ delete_id_at run (from_one r)
      by (Some j) e = rw (delete_files_at_lem e).1 refl
      by None e = rw (no_delete_files e) refl

  place_most : from_one sought ≤ m
  place_most = by sought refl
    where
      by : (r : Option ℕ) → sought ≡ r → from_one r ≤ m
      by (Some j) e = omega (arith, (found_tells (delete_file_at run positions) (deletes_in s file) m refl e).0)
      by None e = omega arith

pub length-listed : (ds : List (Versioned DeleteFile)) (s : ℕ) (f : Versioned DataFile) → length (listed ds s f) ≡ listed_size
unfolding listed
length-listed ds s f = refl

-- the files that are read, by one test
pub read_both : (q : Option Filter) (xs : List Statistics) (fs : List (Versioned DataFile)) (s table : ℕ) → files_read q xs fs s table ≡ filter (is_read q xs table s) fs
unfolding data_files_at
read_both q xs fs s table = filter_both (passes q xs) (in_table table s) fs

-- a data file that is read, or is not
pub not_read : (a : Bool) {b : Bool} → b ≡ false → false ≡ (a && b)
not_read a h = rw (h, and-false a) refl

pub is_read_lem : {r a b : Bool} → r ≡ a → b ≡ true → r ≡ (a && b)
is_read_lem {a = a} e h = rw (h, and-true a) e

-- with the delete files of n data files found
module _ (files run places : List ℕ) (n m s : ℕ) (F : DeleteFilesFound files n run m s places) where
  pub place-within : (k : ℕ) → k < n → get_or places k 0 ≤ m
  place-within k h = omega (arith, F.found k h [], place_most run [] m s (data_file_at files k).id)

  pub listed_is : (positions : List ℕ) (k : ℕ) → k < n → (data_file_at files k).id ∷ delete_id_at run (get_or places k 0) ∷ [] ≡ listed (delete_files_in run positions m) s (data_file_at files k)
  unfolding listed
  listed_is positions k h =
      ap (λ d. (data_file_at files k).id ∷ d ∷ []) (ap (delete_id_at run) (F.found k h positions) ∙ sym (delete_id_is run positions m s (data_file_at files k).id))

-- the loop that lays the words of the files that are read
module _ (files run statistics : List ℕ) (n m u table s : ℕ) (q : Option Filter) where
  abbrev test : Versioned DataFile → Bool
  test = is_read q (statistics_in statistics u) table s

  abbrev read : List (Versioned DataFile)
  read = files_read q (statistics_in statistics u) (data_files_in files n) s table

  abbrev words : List ℕ → Versioned DataFile → List ℕ
  words positions = listed (delete_files_in run positions m) s

  read_is : (positions : List ℕ) → flat_map (words positions) (filter test (data_files_in files n)) ≡ flat_map (words positions) read
  read_is positions = ap (flat_map (words positions)) (sym (read_both q (statistics_in statistics u) (data_files_in files n) s table))

  list_length : (positions : List ℕ) → length (flat_map (words positions) read) ≡ listed_size * length read
  list_length positions = flat_map_size (words positions) listed_size (length-listed (delete_files_in run positions m) s) read

  pub list_counted : (positions : List ℕ) {r : ℕ} → r ≡ length read → listed_size * r ≡ length (flat_map (words positions) read)
  list_counted positions e = ap (λ r. listed_size * r) e ∙ sym (list_length positions)

  -- with k words laid in w, and the files from i on to come, it comes to what it comes to from the start
  pub record Listing (area w : List ℕ) (k i : ℕ) : Type 0 where
    pub long : length w ≡ length area
    pub room : listed_size * length read ≤ length area
    pub same : (positions : List ℕ) → laid (data_file_at files) test n (words positions) area 0 0 ≡ laid (data_file_at files) test n (words positions) w k i

  module _ {area w : List ℕ} {k i : ℕ} (L : Listing area w k i) (h : i < n) {b : Bool} (r : b ≡ test (data_file_at files i)) where
    fits : (positions : List ℕ) → length (flat_map (words positions) (filter test (data_files_in files n))) ≤ length w
    fits positions = omega (arith, ap length (read_is positions), list_length positions)

    pub listing_room : b ≡ true → k + listed_size ≤ length w
    listing_room t =
        omega (arith, laid_room (data_file_at files) test n (words []) area w k i (length w) (fits []) (L.same []) refl h (sym r ∙ t), length-listed (delete_files_in run [] m) s (data_file_at files i))

    pub listing_pass : {v : List ℕ} (new : List ℕ) → b ≡ true → length v ≡ length w → v ≡ overwrite w k new → ((positions : List ℕ) → new ≡ words positions (data_file_at files i))
        → Listing area v (k + listed_size) (i + 1)
    listing_pass {v} new t l e g = record {
      long = l ∙ L.long;
      room = L.room;
      same = λ positions. laid_pass (data_file_at files) test n (words positions) area w v k i (fits positions) (L.same positions) refl h (sym r ∙ t)
          (sym (length-listed (delete_files_in run positions m) s (data_file_at files i))) (e ∙ ap (overwrite w k) (g positions));
    }

    pub listing_fail : b ≡ false → Listing area w k (i + 1)
    listing_fail t = record {
      long = L.long;
      room = L.room;
      same = λ positions. L.same positions ∙ laid_fail (data_file_at files) test n (words positions) w k i refl h (sym r ∙ t);
    }

  pub listing_end : {area w : List ℕ} {k i : ℕ} → Listing area w k i → n ≤ i → (positions : List ℕ) → w ≡ overwrite area 0 (flat_map (words positions) read)
  listing_end {area} {w} {k} {i} L h positions =
      (laid_done (data_file_at files) test n (words positions) area w k i (L.same positions) h).1 ∙ ap (overwrite area 0) (read_is positions)
