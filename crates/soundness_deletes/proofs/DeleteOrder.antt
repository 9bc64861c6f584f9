-- Delete files by data file and begin: where each two that follow each other are apart, all are. Those whose data file no other has decide nothing.
use Prim.Native.Nat.{ℕ, ◌+◌, ◌*◌, ◌%◌, ◌≤◌, ◌<◌}
use mathlib.Core.Path.{◌≡◌, refl, sym, ap, ◌∙◌}
use mathlib.Core.Logic.{◌⊎◌, inl}
use mathlib.Core.List.{List, map}
use mathlib.Core.Bool.{Bool, true, false, not, ◌&&◌, ◌||◌, and-true}
use native.Mathlib.Omega.{arith}
use lib.Dec.{leb, ltb, eqb}
use lib.ListN.{length}
use borrow.Author.Tests.{leb-true, le-leb, ltb-true, lt-ltb, eqb-true, eqb-false, eq-eqb}
use Rattle.lists.specs.Lists.{range, agree, all, has, pairwise}
use Rattle.lists.specs.Runs.{field, overwrite}
use Rattle.lists.proofs.Tests.{Reflects, either, both, and, reflects_it, reflects_eqb, reflects_implies_either, eqb_swap}
use Rattle.lists.proofs.Loops.{filled_whole}
use Rattle.lists.proofs.Members.{In, all_in, in_all}
use Rattle.lists.proofs.Places.{all-at}
use Rattle.lists.proofs.Runs.{record_fits}
use Rattle.lists.proofs.Selections.{pairwise_map, all_weaken}
use Rattle.layout.specs.Catalog.{Versioned, DeleteFile}
use Rattle.layout.specs.Fields.{delete_file_size, delete_file_data_file_word, delete_file_begin_word}
use Rattle.ducklake.specs.Soundness.{succeeded_by, delete_files_apart}
use Rattle.lookup.specs.declared.positions.DeleteFiles.{DeleteFiles}
use Rattle.lookup.specs.DeleteFiles.{file_at, files_of}
use Rattle.std.specs.Borrow.{Bor}
use Rattle.sorting.specs.Ordered.{Decided}
use Rattle.sorting.specs.Colliding.{hash_limit, same_prefix, field_hash, Kept}
use Rattle.sorting.specs.Keys.{in_order, Keyed, Put}
use Rattle.sorting.proofs.Collisions.{all-below}
use Rattle.sorting.proofs.KeyOrder.{pairs_most}
use Rattle.soundness_deletes.specs.Deletes.{begins_before_end, apart_at, keyed_at, DeletesKeyed}
use Rattle.soundness_deletes.proofs.DeleteFiles.{succeeded_later, apart_other}

succeeds_order : (d e : Versioned DeleteFile) → succeeded_by d e ≡ true → d.end ≤ e.begin
unfolding succeeded_by
succeeds_order d e h = leb-true d.end e.begin (both (leb d.end e.begin) (all (λ p. has p e.body.positions) d.body.positions) h).0

apart_told : (d e : Versioned DeleteFile) → Reflects (delete_files_apart d e) (d.body.data_file ≡ e.body.data_file → (succeeded_by d e ≡ true) ⊎ (succeeded_by e d ≡ true))
unfolding delete_files_apart
apart_told d e = reflects_implies_either (reflects_eqb _ _) (reflects_it _) (reflects_it _)

apart_flip : (d e : Versioned DeleteFile) → delete_files_apart d e ≡ delete_files_apart e d
unfolding delete_files_apart
apart_flip d e = rw (eqb_swap d.body.data_file e.body.data_file) (turn (not (eqb e.body.data_file d.body.data_file)) (succeeded_by d e) (succeeded_by e d))
  where
    turn : (a b c : Bool) → (a || b || c) ≡ (a || c || b)
    turn true b c = refl
    turn false true true = refl
    turn false true false = refl
    turn false false true = refl
    turn false false false = refl

-- places below n of what has room for n records of a size
pub below_keyed : (size n : ℕ) (run ps : List ℕ) → size * n ≤ length run → all (λ p. ltb p n) ps ≡ true → Keyed size run ps
below_keyed size n run ps r h = record {
  keyed = all_weaken (λ p. ltb p n) (λ p. leb (size * p + size) (length run)) ps (λ p l. le-leb (size * p + size) (length run) (record_fits size (ltb-true p n l) r)) h;
}

-- hashes of the data files of all of n delete files
abbrev pub file_hash : List ℕ → ℕ → ℕ
file_hash run = field_hash delete_file_size delete_file_data_file_word run

pub hashes_of : (run old : List ℕ) {n m : ℕ} {xs hashes : List ℕ} → xs ≡ range 0 m → m ≡ n → length hashes ≡ n → hashes ≡ overwrite old 0 (map (file_hash run) (range 0 n))
    → (hashes ≡ map (file_hash run) xs) × (all (λ h. ltb h hash_limit) hashes ≡ true)
hashes_of run old {n} {xs = xs} e l k h =
    let t = filled_whole (file_hash run) n old k h ∙ ap (map (file_hash run)) (sym (e ∙ ap (range 0) l)) in
    (t, all-below (file_hash run) hash_limit (λ x. omega arith) xs t)

-- keys into which data files and begins were put
pub deletes_keyed : {d : DeleteFiles} {old one keys ps : List ℕ} → 2 * d.n ≤ length old → all (λ p. ltb p d.n) ps ≡ true
    → (length one ≡ length old) × Put (field delete_file_size delete_file_data_file_word d.records.now) 2 0 ps old one
    → (length keys ≡ length one) × Put (field delete_file_size delete_file_begin_word d.records.now) 2 1 ps one keys → DeletesKeyed d keys ps
deletes_keyed {d} {keys = keys} {ps} l h p q = record {
  room = omega (arith, l, p.0, q.0);
  keyed = in_all (keyed_at d keys) ps (λ i m. and (and (all_in (λ p. ltb p d.n) ps h m)
      (eq-eqb _ _ (q.1.others i 0 (omega arith) (λ (e : 0 ≡ 1). omega arith) ∙ p.1.put i m))) (eq-eqb _ _ (q.1.put i m)));
}

-- places left out, since the data file of no other has the same last digits, decide nothing
pub apart_by : (d : DeleteFiles) {m : ℕ} {xs ys : List ℕ} → xs ≡ range 0 m → m ≡ d.n → Kept (file_hash d.records.now) xs ys
    → pairwise (apart_at d) ys ≡ pairwise delete_files_apart (files_of d)
unfolding field
apart_by d e l t =
    t.decided (apart_at d) (λ i j differ. apart_other (file_at d i) (file_at d j) refl refl (λ e. differ (ap (λ x. x % hash_limit) e)))
    ∙ (ap (pairwise (apart_at d)) (e ∙ ap (range 0) l) ∙ sym (pairwise_map delete_files_apart (file_at d) (range 0 d.n)))

-- what it tells of a place that it has its key, and of places that each has
key_told : (d : DeleteFiles) (keys : List ℕ) (i : ℕ) → keyed_at d keys i ≡ true
    → (i < d.n) × (field 2 0 keys i ≡ field delete_file_size delete_file_data_file_word d.records.now i) × (field 2 1 keys i ≡ field delete_file_size delete_file_begin_word d.records.now i)
key_told d keys i h =
    let file = eqb (field 2 0 keys i) (field delete_file_size delete_file_data_file_word d.records.now i) in
    let a = both (ltb i d.n && file) (eqb (field 2 1 keys i) (field delete_file_size delete_file_begin_word d.records.now i)) h in
    let b = both (ltb i d.n) file a.0 in
    (ltb-true i d.n b.0, eqb-true _ _ b.1, eqb-true _ _ a.1)

pub places_below : {d : DeleteFiles} {keys ps : List ℕ} → DeletesKeyed d keys ps → all (λ p. ltb p d.n) ps ≡ true
places_below {d} {keys} {ps} k = all_weaken (keyed_at d keys) (λ p. ltb p d.n) ps (λ p h. lt-ltb p d.n (key_told d keys p h).0) k.keyed

pub place_below : {d : DeleteFiles} {keys ps : List ℕ} {i : ℕ} → DeletesKeyed d keys ps → In i ps → i < d.n
place_below {d} {ps = ps} k m = ltb-true _ d.n (all_in (λ p. ltb p d.n) ps (places_below k) m)

pub places_keyed : {d : DeleteFiles} {keys ps : List ℕ} → DeletesKeyed d keys ps → Keyed 2 keys ps
places_keyed {d} {keys} {ps} k = below_keyed 2 d.n keys ps k.room (places_below k)

module _ (d : DeleteFiles) (keys : List ℕ) where
  -- the words of a key
  key_file : (i : ℕ) → keyed_at d keys i ≡ true → field 2 0 keys i ≡ (file_at d i).body.data_file
  unfolding field
  key_file i h = (key_told d keys i h).1

  key_begin : (i : ℕ) → keyed_at d keys i ≡ true → field 2 1 keys i ≡ (file_at d i).begin
  unfolding field
  key_begin i h = (key_told d keys i h).2

  -- whether two keys have the same first word
  same_first : (i j : ℕ) → same_prefix 1 2 keys i j ≡ eqb (field 2 0 keys i) (field 2 0 keys j)
  unfolding range agree
  same_first i j = and-true (eqb (field 2 0 keys i) (field 2 0 keys j))

  -- delete files of different data files are apart
  apart_first : (i j : ℕ) → keyed_at d keys i ≡ true → keyed_at d keys j ≡ true → same_prefix 1 2 keys i j ≡ false → apart_at d i j ≡ true
  apart_first i j g h e = apart_other (file_at d i) (file_at d j) (key_file i g) (key_file j h) (eqb-false _ _ (sym (same_first i j) ∙ e))

  module _ (lives : all begins_before_end (files_of d) ≡ true) where
    in_order_lem : (i j : ℕ) → keyed_at d keys i ≡ true → keyed_at d keys j ≡ true → in_order 2 keys i j ≡ true
        → ((file_at d i).body.data_file ≤ (file_at d j).body.data_file) × ((file_at d i).body.data_file ≡ (file_at d j).body.data_file → (file_at d i).begin ≤ (file_at d j).begin)
    in_order_lem i j g h o =
        let a = key_file i g in
        let b = key_file j h in
        let c = key_begin i g in
        let d = key_begin j h in
        either (pairs_most keys i j o) (λ u. (omega arith, λ e. omega arith)) (λ u. (omega arith, λ e. omega arith))

    -- of two that follow each other the first comes first
    forward : (i j : ℕ) → keyed_at d keys i ≡ true → keyed_at d keys j ≡ true → in_order 2 keys i j ≡ true → apart_at d i j ≡ true → (file_at d i).body.data_file ≡ (file_at d j).body.data_file
        → succeeded_by (file_at d i) (file_at d j) ≡ true
    forward i j g h o s e =
        either ((apart_told (file_at d i) (file_at d j)).to s e) (λ t. t)
        (λ t. absurd (omega (arith, succeeds_order (file_at d j) (file_at d i) t, (in_order_lem i j g h o).1 e, life)))
      where
        life : (file_at d j).begin < (file_at d j).end
        life = ltb-true (file_at d j).begin (file_at d j).end (all-at (file_at d) begins_before_end d.n j lives (key_told d keys j h).0)

    between : (a b c : ℕ) → keyed_at d keys a ≡ true → keyed_at d keys b ≡ true → keyed_at d keys c ≡ true → in_order 2 keys a b ≡ true → in_order 2 keys b c ≡ true
        → apart_at d a b ≡ true → apart_at d b c ≡ true → apart_at d a c ≡ true
    between a b c x y z o m s t =
        let f = (in_order_lem a b x y o).0 in
        let g = (in_order_lem b c y z m).0 in
        (apart_told (file_at d a) (file_at d c)).from (λ e. inl (succeeded_later (file_at d a) (file_at d b) (file_at d c) (all-at (file_at d) begins_before_end d.n b lives (key_told d keys b y).0)
        (forward a b x y o s (omega arith)) (forward b c y z m t (omega arith))))

-- so of places in order those that follow each other decide
pub deletes_decided : (d : DeleteFiles) (keys : Bor (List ℕ)) {xs : List ℕ} → all begins_before_end (files_of d) ≡ true → DeletesKeyed d keys.now xs
    → Decided (record { words = keys; size = 2 }) 1 (apart_at d) xs
deletes_decided d keys l k = record {
  passes = keyed_at d keys.now;
  pass = k.keyed;
  swapped = λ i j. apart_flip (file_at d i) (file_at d j);
  other = apart_first d keys.now;
  between = between d keys.now l;
}
