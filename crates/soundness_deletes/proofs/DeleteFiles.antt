-- Delete files: whether their positions are sound, and how they succeed each other.
use Rattle.std.specs.Prelude.{None, Option, Some}
use Prim.Native.Nat.{ℕ, ◌-◌, ◌≤◌, ◌<◌}
use mathlib.Core.Path.{◌≡◌, refl, sym, ap, ap₂, ◌∙◌}
use mathlib.Core.Bool.{Bool, true, false, not, ◌&&◌, ◌||◌, and-true, and-false}
use mathlib.Core.List.{List, [], ◌∷◌}
use native.Mathlib.Omega.{arith}
use lib.Dec.{leb, ltb, eqb}
use lib.ListN.{length, get_or}
use borrow.Author.Tests.{le-leb, lt-leb, leb-true, ltb-true, lt-ltb, eq-eqb, ne_eqb}
use Rattle.lists.specs.Lists.{all, any, chained, has}
use Rattle.lists.specs.Runs.{at, field}
use Rattle.lists.proofs.Tests.{if, both, and, or_left, or_right}
use Rattle.lists.proofs.Members.{each, all_in, in_all}
use Rattle.lists.proofs.Selections.{any_some, has_trans}
use Rattle.lists.proofs.Places.{all-at, at_all, any_nowhere}
use Rattle.lists.proofs.Search.{any_found}
use Rattle.layout.specs.declared.record.DeleteFileRecord.{DeleteFileRecord}
use Rattle.layout.specs.Catalog.{Versioned, DataFile, DeleteFile, delete_file_of}
use Rattle.layout.specs.Fields.{data_file_size, data_file_id_word}
use Rattle.layout.specs.Records.{data_file_layout}
use Rattle.layout.specs.Words.{delete_file_at, delete_files_in, data_file_at, data_files_in}
use Rattle.ducklake.specs.Soundness.{succeeded_by, delete_files_apart, positions_sound}
use Rattle.lookup.specs.Order.{DataFilesById, place_of}
use Rattle.soundness_deletes.specs.Deletes.{begins_before_end, positions_ascend}

-- a delete file without positions is not sound
none : (xs : List ℕ) → length xs ≡ 0 → any (λ p. true) xs ≡ false
unfolding any
none [] h = refl
none (x ∷ xs) h = absurd (omega arith)

pub unsound_empty : (fs : List (Versioned DataFile)) (d : Versioned DeleteFile) → length d.body.positions ≡ 0 → positions_sound fs d ≡ false
unfolding positions_sound
unsound_empty fs d h = rw (none d.body.positions h) refl

-- numbers that ascend are below a limit just where the last is
last_below : (limit x : ℕ) (xs : List ℕ) → chained ltb (x ∷ xs) ≡ true → all (λ x. ltb x limit) (x ∷ xs) ≡ ltb (get_or (x ∷ xs) (length xs) 0) limit
unfolding all chained
last_below limit x [] h = and-true (ltb x limit)
last_below limit x (y ∷ ys) h =
    let k = both (ltb x y) (chained ltb (y ∷ ys)) h in
    let e = last_below limit y ys k.1 in
    if (all (λ x. ltb x limit) (y ∷ ys))
    (λ t. rw (lt-ltb x limit (omega (arith, ltb-true x y k.0, ltb-true y limit (both (ltb y limit) _ t).0))) e)
    (λ f. ap (λ b. ltb x limit && b) f ∙ (and-false (ltb x limit) ∙ (sym f ∙ e)))

ascending-below : (limit : ℕ) (xs : List ℕ) → (length xs ≡ 0 → ⊥) → (chained ltb xs && ltb (get_or xs (length xs - 1) 0) limit) ≡ (chained ltb xs && all (λ x. ltb x limit) xs)
ascending-below limit [] z = absurd (z refl)
ascending-below limit (x ∷ xs) z =
    let e : length (x ∷ xs) - 1 ≡ length xs = omega arith in
    if (chained ltb (x ∷ xs)) (λ h. ap (λ b. chained ltb (x ∷ xs) && b) (ap (λ k. ltb (get_or (x ∷ xs) k 0) limit) e ∙ sym (last_below limit x xs h))) (λ h. rw h refl)

-- the delete file g, with positions ps, whose data file was sought
module _ (files : List ℕ) (n : ℕ) (g : DeleteFileRecord) (ps : List ℕ) where
  abbrev all_below : Versioned DataFile → Bool
  all_below v = all (λ p. ltb p v.body.record_count) ps

  module _ {r : Option ℕ} (p : r ≡ place_of data_file_size data_file_id_word files n g.data_file.0) where
    -- there is no such data file
    pub unsound_lost : r ≡ None → positions_sound (data_files_in files n) (delete_file_of g ps) ≡ false
    unfolding field positions_sound
    unsound_lost h = rw (any_nowhere (data_file_at files) (λ v. v.id) g.data_file.0 n all_below p h, and-false) refl

    -- it has so many rows: they ascend, and the last is below that
    pub sound_found : {j rows : ℕ} {a : Bool} → DataFilesById files n → r ≡ Some j → rows ≡ (at data_file_layout files j).record_count → (length ps ≡ 0 → ⊥)
        → a ≡ chained ltb ps → (a && ltb (get_or ps (length ps - 1) 0) rows) ≡ positions_sound (data_files_in files n) (delete_file_of g ps)
    unfolding field positions_sound
    sound_found {rows = rows} e h l z s =
        ap (λ b. b && ltb (get_or ps (length ps - 1) 0) rows) s ∙ (ascending-below rows ps z
        ∙ sym (rw (any_found (data_file_at files) (λ v. v.id) g.data_file.0 n all_below e.ascending p h, ← l, any_some ps (omega (arith, z))) refl))

-- the test of a delete file and its positions, once both were read
pub read_sound : (fs : List (Versioned DataFile)) {f g : DeleteFileRecord} {ps qs : List ℕ} {b : Bool}
    → f ≡ g → ps ≡ qs → b ≡ positions_sound fs (delete_file_of f ps) → b ≡ positions_sound fs (delete_file_of g qs)
read_sound fs e t h = h ∙ ap₂ (λ g ps. positions_sound fs (delete_file_of g ps)) e t

-- sound positions ascend, so delete files that have them can be compared
pub sound_ascend : (files : List ℕ) (n : ℕ) (run positions : List ℕ) (m : ℕ) → all (positions_sound (data_files_in files n)) (delete_files_in run positions m) ≡ true
    → all positions_ascend (delete_files_in run positions m) ≡ true
unfolding positions_sound
sound_ascend files n run positions m t =
    at_all (delete_file_at run positions) positions_ascend m (λ i h.
    let d = delete_file_at run positions i in
    (both (any (λ p. true) d.body.positions) (chained ltb d.body.positions)
    (both (any (λ p. true) d.body.positions && chained ltb d.body.positions) (any (λ f. eqb f.id d.body.data_file && all (λ p. ltb p f.body.record_count) d.body.positions) (data_files_in files n))
    (all-at (delete_file_at run positions) (positions_sound (data_files_in files n)) m i t h)).0).1)

-- two delete files: whether the second succeeds the first
module _ (d e : Versioned DeleteFile) where
  module _ {end begin : ℕ} (f : end ≡ d.end) (g : begin ≡ e.begin) where
    pub succeeded_not : begin < end → succeeded_by d e ≡ false
    unfolding succeeded_by
    succeeded_not h = rw (← f, ← g, lt-leb end begin h) refl

    pub succeeded_is : {x y : List ℕ} → end ≤ begin → x ≡ d.body.positions → y ≡ e.body.positions → succeeded_by d e ≡ all (λ p. has p y) x
    unfolding succeeded_by
    succeeded_is h p q = rw (← f, ← g, le-leb end begin h, ← p, ← q) refl

  -- and whether they are apart
  module _ {a b : ℕ} (f : a ≡ d.body.data_file) (g : b ≡ e.body.data_file) where
    apart_is : delete_files_apart d e ≡ (not (eqb a b) || succeeded_by d e || succeeded_by e d)
    unfolding delete_files_apart
    apart_is = ap₂ (λ x y. not (eqb x y) || succeeded_by d e || succeeded_by e d) (sym f) (sym g)

    pub apart_other : (a ≡ b → ⊥) → delete_files_apart d e ≡ true
    apart_other h = apart_is ∙ rw (ne_eqb a b h) refl

    module _ {s : Bool} (k : s ≡ succeeded_by d e) where
      pub apart_forth : s ≡ true → delete_files_apart d e ≡ true
      apart_forth h = apart_is ∙ or_left (not (eqb a b) || succeeded_by d e) _ (or_right (not (eqb a b)) _ (sym k ∙ h))

      pub apart_back : a ≡ b → s ≡ false → {t : Bool} → t ≡ succeeded_by e d → t ≡ delete_files_apart d e
      apart_back p h l = l ∙ sym (apart_is ∙ rw (eq-eqb a b p, ← k, h) refl)

  -- a successor's successor is one, where the middle one has a life
  pub succeeded_later : (f : Versioned DeleteFile) → begins_before_end e ≡ true → succeeded_by d e ≡ true → succeeded_by e f ≡ true → succeeded_by d f ≡ true
  unfolding succeeded_by
  succeeded_later f l s t =
      let p = both (leb d.end e.begin) (all (λ p. has p e.body.positions) d.body.positions) s in
      let q = both (leb e.end f.begin) (all (λ p. has p f.body.positions) e.body.positions) t in
      and (le-leb d.end f.begin (omega (arith, ltb-true e.begin e.end l, leb-true d.end e.begin p.0, leb-true e.end f.begin q.0)))
      (in_all (λ p. has p f.body.positions) d.body.positions
      (has_trans d.body.positions e.body.positions f.body.positions
      (each (λ x m. all_in (λ p. has p e.body.positions) d.body.positions p.1 m)) (each (λ x m. all_in (λ p. has p f.body.positions) e.body.positions q.1 m))).at)
