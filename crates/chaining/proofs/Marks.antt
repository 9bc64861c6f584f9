-- Flags of data files: set by id, told by id. Ids ascend, so the place found is the only one of its id.
use Rattle.std.specs.Prelude.{None, Option, Some}
use Prim.Native.Nat.{ℕ, ◌+◌, ◌≤◌, ◌<◌}
use mathlib.Core.Path.{◌≡◌, refl, sym, ap, subst, ◌∙◌}
use mathlib.Core.Bool.{Bool, true, false, not, ◌&&◌, ◌||◌}
use mathlib.Core.List.{List}
use native.Mathlib.Omega.{arith}
use lib.Dec.{ltb, eqb}
use lib.ListN.{length, get_or, set, replicate, get_or-replicate}
use lib.Seq.{get_or-set_same, get_or-set_other}
use borrow.Author.Tests.{eqb-true, eqb-false, eq-eqb}
use Rattle.lists.specs.Lists.{all, any, chained, bit}
use Rattle.lists.specs.Runs.{from, at, field, fields}
use Rattle.lists.specs.Pieces.{flagged, Flags}
use Rattle.lists.proofs.Tests.{if, or_right, same_test, eqb_swap}
use Rattle.lists.proofs.Loops.{from_step, from_end}
use Rattle.lists.proofs.Places.{Placed, placed, found_tells, any_nowhere}
use Rattle.lists.proofs.Search.{ascending_one, any_found}
use Rattle.layout.specs.declared.number.FileId.{FileId}
use Rattle.layout.specs.declared.number.SnapshotId.{SnapshotId}
use Rattle.layout.specs.declared.outcome.Counts.{Counts}
use Rattle.layout.specs.Catalog.{absent}
use Rattle.layout.specs.Fields.{data_file_size, data_file_id_word}
use Rattle.layout.specs.Records.{delete_file_layout}
use Rattle.layout.specs.Words.{Words, load, data_file_at, data_files_in, delete_file_at, delete_files_in}
use Rattle.lookup.specs.Order.{place_of}
use Rattle.chaining.specs.Chained.{is_open, has_open_deletes, is_chained}

pub or-false : (b : Bool) → b ≡ (b || false)
or-false true = refl
or-false false = refl

-- an open delete file counts, one that ended does not

one_more : (a x : Bool) {o : Bool} → o ≡ true → (r : Bool) → (a || ((x && o) || r)) ≡ ((a || x) || r)
one_more true x e r = refl
one_more false true e r = rw e refl
one_more false false e r = refl

no_more : (x : Bool) {o : Bool} → o ≡ false → (r : Bool) → ((x && o) || r) ≡ r
no_more true e r = rw e refl
no_more false e r = refl

-- one flag is set
flag-set : (flags : List ℕ) (i j : ℕ) → i < length flags → flagged (set flags i 1) j ≡ (flagged flags j || eqb i j)
unfolding flagged
flag-set flags i j l =
    if (eqb i j)
    (λ q. rw (← eqb-true i j q, get_or-set_same flags i 1 0 l) (sym (or_right (eqb (get_or flags i 0) 1) (eqb i i) (eq-eqb i i refl))))
    (λ q. rw (get_or-set_other flags i j 1 0 (λ a. eqb-false i j q (sym a)), q) (or-false (eqb (get_or flags j 0) 1)))

module _ (fs : List ℕ) (n k : ℕ) {r : Option ℕ} (h : r ≡ place_of data_file_size data_file_id_word fs n k) where
  pub found_id : {i : ℕ} → r ≡ Some i → (i < n) × ((data_file_at fs i).id ≡ k)
  unfolding field
  found_id g = let t = found_tells (λ i. (data_file_at fs i).id) (λ y. eqb y k) n h g in (t.0, eqb-true _ k t.1)

  pub open_found : chained ltb (fields data_file_size data_file_id_word fs n) ≡ true → {i : ℕ} → r ≡ Some i
      → is_open (data_files_in fs n) k ≡ eqb (data_file_at fs i).end absent
  unfolding field is_open
  open_found e g = any_found (data_file_at fs) (λ f. f.id) k n (λ f. eqb f.end absent) e h g

  pub open_nowhere : r ≡ None → is_open (data_files_in fs n) k ≡ false
  unfolding field is_open
  open_nowhere g = any_nowhere (data_file_at fs) (λ f. f.id) k n (λ f. eqb f.end absent) h g

  -- the flag at the place found is set
  pub mark_found : chained ltb (fields data_file_size data_file_id_word fs n) ≡ true → (flags : List ℕ) {v : List ℕ} {i : ℕ} → r ≡ Some i → n ≤ length flags → v ≡ set flags i (bit true)
      → Flags (λ j. flagged flags j || eqb k (data_file_at fs j).id) n v
  unfolding field
  mark_found e flags {v} {i} g l s = record { set = marked }
    where
      here : (i < n) × ((data_file_at fs i).id ≡ k)
      here = found_id g

      marked : (j : ℕ) → j < n → flagged v j ≡ (flagged flags j || eqb k (data_file_at fs j).id)
      marked j b =
          ap (λ w. flagged w j) s ∙ (flag-set flags i j (omega (arith, here.0)) ∙ ap (λ x. flagged flags j || x)
          (same_test _ _ (λ q. eq-eqb k _ (sym here.1 ∙ ap (λ a. (data_file_at fs a).id) (eqb-true i j q)))
          (λ q. eq-eqb i j (ascending_one (λ a. (data_file_at fs a).id) n e i j here.0 b (here.1 ∙ eqb-true k _ q)))))

  -- no flag is, where no data file has the id
  pub mark_nowhere : r ≡ None → (flags : List ℕ) → Flags (λ j. flagged flags j || eqb k (data_file_at fs j).id) n flags
  unfolding field
  mark_nowhere g flags = record { set = kept }
    where
      other : Placed (λ i. (data_file_at fs i).id) (λ y. eqb y k) 0 (0 + n) None
      other = subst (Placed (λ i. (data_file_at fs i).id) (λ y. eqb y k) 0 (0 + n)) (sym h ∙ g) (placed (λ i. (data_file_at fs i).id) (λ y. eqb y k) n 0)

      kept : (j : ℕ) → j < n → flagged flags j ≡ (flagged flags j || eqb k (data_file_at fs j).id)
      kept j b = or-false (flagged flags j) ∙ ap (λ x. flagged flags j || x) (sym (eqb_swap k _ ∙ other j (omega arith) (omega (arith, b))))

-- the loop over the delete files: what it comes to from the delete file i on
module _ (ds p : List ℕ) (m i k : ℕ) where
  pub marks_step : i < m → has_open_deletes (from (delete_file_at ds p) i m) k
      ≡ ((eqb (delete_file_at ds p i).body.data_file k && eqb (delete_file_at ds p i).end absent) || has_open_deletes (from (delete_file_at ds p) (i + 1) m) k)
  unfolding any has_open_deletes
  marks_step h = rw (from_step (delete_file_at ds p) i m h) refl

  pub marks_open : {x : FileId} {y : SnapshotId} → i < m → x ≡ (at delete_file_layout ds i).data_file → y ≡ (at delete_file_layout ds i).end → eqb y.0 absent ≡ true → (a : Bool) {b : Bool} → b ≡ (a || eqb x.0 k)
      → (a || has_open_deletes (from (delete_file_at ds p) i m) k) ≡ (b || has_open_deletes (from (delete_file_at ds p) (i + 1) m) k)
  marks_open h e f g a t =
      ap (◌||◌ a) (marks_step h) ∙ (one_more a (eqb (delete_file_at ds p i).body.data_file k) (ap (λ z. eqb z.0 absent) (sym f) ∙ g) _
      ∙ ap (λ z. z || has_open_deletes (from (delete_file_at ds p) (i + 1) m) k) (ap (λ z. a || eqb z.0 k) (sym e) ∙ sym t))

  pub marks_ended : {y : SnapshotId} → i < m → y ≡ (at delete_file_layout ds i).end → eqb y.0 absent ≡ false
      → has_open_deletes (from (delete_file_at ds p) i m) k ≡ has_open_deletes (from (delete_file_at ds p) (i + 1) m) k
  marks_ended h f g = marks_step h ∙ no_more (eqb (delete_file_at ds p i).body.data_file k) (ap (λ z. eqb z.0 absent) (sym f) ∙ g) _

  pub marks_end : m ≤ i → has_open_deletes (from (delete_file_at ds p) i m) k ≡ false
  unfolding any has_open_deletes
  marks_end h = rw (from_end (delete_file_at ds p) i m h) refl

-- flags that are not set yet
pub unmarked : (k n : ℕ) (q : ℕ → Bool) {v : List ℕ} → n ≤ k → Flags (λ j. flagged (replicate k 0) j || q j) n v → Flags q n v
unfolding flagged
unmarked k n q h f = record { set = λ j l. f.set j l ∙ rw (get_or-replicate {A = ℕ} k j 0 0 (omega (arith, l))) refl }

-- the test of the tables, by the runs that it reads
pub chained_words : (w : Words) (c : Counts) {fs ds : List ℕ} → w.data_files ≡ fs → w.delete_files ≡ ds
    → is_chained (load w c) ≡ all (λ d. not (is_open (data_files_in fs c.data_files) d.body.data_file) || has_open_deletes (delete_files_in ds w.positions c.delete_files) d.body.data_file)
    (delete_files_in ds w.positions c.delete_files)
unfolding load is_chained
chained_words w c e f = rw (e, f) refl
