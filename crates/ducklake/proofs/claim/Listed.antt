-- A file is listed at some snapshot just if it has a record; which files fall out of every list.
use Prim.Native.Nat.{ℕ, ◌+◌, ◌≤◌, ◌<◌}
use mathlib.Core.Path.{◌≡◌, refl, sym, ap, ◌∙◌}
use mathlib.Core.Logic.{◌⊎◌, inl, inr}
use mathlib.Core.List.{List, [], ◌∷◌, map}
use mathlib.Core.Bool.{Bool, true, false, not, cond, ◌&&◌, ◌||◌}
use native.Mathlib.Omega.{arith}
use lib.Dec.{eqb, leb, ltb}
use borrow.Author.Tests.{ltb-true, eqb-true, eq-eqb, ne_eqb}
use Rattle.lists.specs.Lists.{any, filter, has, bit, count}
use Rattle.lists.proofs.Tests.{if, either, clash, both, and, same_test, leb_not_ltb}
use Rattle.lists.proofs.Members.{In, here, next, in_cons, in_nil, Any, in_map, in_map_of, in_filter, in_filter_of, any_in, in_any, reflects_has, pair_two, in_flat_map, in_flat_map_of}
use Rattle.lists.proofs.Selections.{filter_all, filter_ext}
use Rattle.lists.proofs.Counts.{count-append, count_map, count-zero, count-pos, count_sort, count_two, count_and, bit_le, cond_same, cond_add}
use Rattle.layout.specs.declared.record.Uuid.{Uuid}
use Rattle.layout.specs.Catalog.{absent, Versioned, Snapshot, DataFile, DeleteFile, Scheduled, Catalog}
use Rattle.ducklake.specs.Liveness.{live, live_at_some, latest, latest_id, data_files_at, delete_files_at, is_live}
use Rattle.ducklake.specs.Soundness.{ids_of_files, file_ids}
use Rattle.ducklake.specs.Readings.{files, or_absent, listed, query_answer}
use Rattle.ducklake.specs.Commits.{Change, commit}
use Rattle.ducklake.specs.Maintenance.{scheduled_file, removed, expire, cleanup, due}
use Rattle.ducklake.proofs.facts.Facts.{reflects_live, Holds, SucceededBy, Sound}
use Rattle.ducklake.proofs.commits.Moves.{reflects_small, latest_small_lem}
use Rattle.ducklake.proofs.commits.Good.{Good}
use Rattle.ducklake.proofs.commits.Soundness.{commit_latest, commit_count}
use Rattle.ducklake.proofs.expiry.Expire.{expire_latest, expire_count}

-- in the file list of some table at some snapshot
unfoldable pub file_listed : Catalog → ℕ → Bool
file_listed C k = any (λ n. any (λ t. is_live C.tables n.id t.id && has k (query_answer C n.id (files t.id))) C.tables) C.snapshots

-- how many records a file has
abbrev pub records : Catalog → ℕ → ℕ
records C k = count (λ f. eqb f.id k) C.data_files + count (λ d. eqb d.id k) C.delete_files

pub file_ids_count : (C : Catalog) (k : ℕ) → count (λ i. eqb i k) (file_ids C) ≡ records C k + count (λ x. eqb x.file k) C.scheduled
unfolding ids_of_files
file_ids_count C k = simp (count-append, count_map) (omega arith)

-- what holds a live record is live
pub live_held : {A B : Type 0} (s : ℕ) (a : Versioned A) (b : Versioned B) → s < absent → Holds a b → live s b ≡ true → live s a ≡ true
live_held s a b h k l = let r = (reflects_live s b h).to l in (reflects_live s a h).from (omega (arith, k.after), omega (arith, k.until))

-- the number of a registered file is not ABSENT
registered_not_absent : {C : Catalog} → Sound C → (k : ℕ) → k < (latest C).next_file_id → k ≡ absent → ⊥
registered_not_absent S k h e = omega (arith, (latest_small_lem S).next_file_id)

-- the first number, where all are of one record, and where it is not ABSENT
only_word_lem : {A : Type 0} (f : A → ℕ) {x : A} (xs : List A) → In x xs → ((y : A) → In y xs → y ≡ x) → or_absent (map f xs) ≡ f x
only_word_lem f [] m h = in_nil m
only_word_lem f (y ∷ ys) m h = ap f (h y (here refl))

first_word : (ks : List ℕ) {k : ℕ} → (k ≡ absent → ⊥) → k ≡ or_absent ks → In k ks
first_word [] h e = absurd (h e)
first_word (k ∷ ks) h e = here e

module _ (C : Catalog) (S : Sound C) where
  small : (n : Snapshot) → In n C.snapshots → n.id < absent
  small n m = omega (arith, ((reflects_small n).to (S.ranges.snapshots.at n m)).id)

  -- two delete files of one data file that are live at one snapshot are one
  one_delete_file : (s : ℕ) → s < absent → (d e : Versioned DeleteFile) → In d C.delete_files → In e C.delete_files
      → d.body.data_file ≡ e.body.data_file → live s d ≡ true → live s e ≡ true → d ≡ e
  one_delete_file s h d e m n q l l' =
      let x = (reflects_live s d h).to l in
      let y = (reflects_live s e h).to l' in
      either (pair_two S.deletes.apart d e m n) (λ z. z) (λ z. absurd (either z (λ a. never (a q) x y) (λ a. never (a (sym q)) y x)))
    where
      never : {s : ℕ} {d e : Versioned DeleteFile} → SucceededBy d e ⊎ SucceededBy e d → (d.begin ≤ s) × (s < d.end) → (e.begin ≤ s) × (s < e.end) → ⊥
      never o x y = either o (λ w. omega (arith, w.ended)) (λ w. omega (arith, w.ended))

  -- the words of a live data file are in its table's list
  words_listed : (k : ℕ) (n : Snapshot) (f : Versioned DataFile) → In n C.snapshots → In f C.data_files → live n.id f ≡ true
      → In k (listed C.delete_files n.id f) → file_listed C k ≡ true
  unfolding file_listed is_live query_answer data_files_at
  words_listed k n f m i l w =
      let t = S.nest.data_files.at f i in
      let v = live_held n.id t.0 f (small n m) t.2.holds l in
      let x = in_filter (λ f. eqb f.body.table t.0.id && live n.id f) C.data_files i (and (eq-eqb f.body.table t.0.id (sym t.2.same)) l) in
      in_any _ m (in_any _ t.1
      (and (in_any (λ v. eqb v.id t.0.id && live n.id v) t.1 (and (eq-eqb t.0.id t.0.id refl) v))
      ((reflects_has k _).from (in_flat_map (listed C.delete_files n.id) x w))))

  data_listed : (f : Versioned DataFile) → In f C.data_files → file_listed C f.id ≡ true
  unfolding live_at_some listed
  data_listed f m =
      let n = any_in (λ n. live n.id f) C.snapshots (S.lives.data_files.at f m).lives in
      words_listed f.id n.0 f n.1 m n.2 (here refl)

  delete_listed : (d : Versioned DeleteFile) → In d C.delete_files → file_listed C d.id ≡ true
  unfolding live_at_some listed delete_files_at
  delete_listed d m =
      let n = any_in (λ n. live n.id d) C.snapshots (S.lives.delete_files.at d m).lives in
      let f = S.nest.delete_files.at d m in
      let h = small n.0 n.1 in
      let p : Versioned DeleteFile → Bool = λ e. eqb e.body.data_file f.0.id && live n.0.id e in
      let o : or_absent (map (λ e. e.id) (filter p C.delete_files)) ≡ d.id = only_word_lem (λ e. e.id) (filter p C.delete_files)
      (in_filter p C.delete_files m (and (eq-eqb d.body.data_file f.0.id (sym f.2.same)) n.2))
      (λ e i. let r = in_filter_of p C.delete_files i in let b = both (eqb e.body.data_file f.0.id) (live n.0.id e) r.1 in
      one_delete_file n.0.id h e d r.0 m (eqb-true e.body.data_file f.0.id b.0 ∙ f.2.same) b.1 n.2) in
      words_listed d.id n.0 f.0 n.1 f.1 (live_held n.0.id f.0 d h f.2.holds n.2) (next (here (sym o)))

  -- what is listed has a record
  listed_of : (k : ℕ) → (k ≡ absent → ⊥) → file_listed C k ≡ true → Any (λ f. f.id ≡ k) C.data_files ⊎ Any (λ d. d.id ≡ k) C.delete_files
  unfolding file_listed query_answer data_files_at listed delete_files_at
  listed_of k h l =
      let n = any_in _ C.snapshots l in
      let t = any_in _ C.tables n.2 in
      let w = (both (is_live C.tables n.0.id t.0.id) (has k (query_answer C n.0.id (files t.0.id))) t.2).1 in
      let f = in_flat_map_of (listed C.delete_files n.0.id) (data_files_at C.data_files n.0.id t.0.id) ((reflects_has k _).to w) in
      either (in_cons f.2)
      (λ e. inl (f.0, (in_filter_of _ C.data_files f.1).0, sym e))
      (λ i. either (in_cons i)
      (λ e. let d = in_map_of (λ d. d.id) (delete_files_at C.delete_files n.0.id f.0.id) (first_word _ h e) in
      inr (d.0, (in_filter_of _ C.delete_files d.1).0, sym d.2))
      (λ i. in_nil i))

  pub listed_count : (k : ℕ) → (k ≡ absent → ⊥)
      → bit (file_listed C k) ≡ count (λ f. eqb f.id k) C.data_files + count (λ d. eqb d.id k) C.delete_files
  listed_count k h =
      let o = S.files.ids k in
      let e = file_ids_count C k in
      let b = bit_le (ltb k (latest C).next_file_id) in
      if (file_listed C k)
      (λ l. rw l (either (listed_of k h l)
      (λ r. let p = count-pos (λ f. eqb f.id k) r.1 (eq-eqb r.0.id k r.2) in omega arith)
      (λ r. let p = count-pos (λ d. eqb d.id k) r.1 (eq-eqb r.0.id k r.2) in omega arith)))
      (λ l. rw (
        l,
        count-zero (λ f. eqb f.id k) C.data_files (λ f m. ne_eqb f.id k (λ q. clash (data_listed f m) (rw q l))),
        count-zero (λ d. eqb d.id k) C.delete_files (λ d m. ne_eqb d.id k (λ q. clash (delete_listed d m) (rw q l))),
      ))

-- a file of C' that C lists or has not registered, and that C' lists nowhere
abbrev pub falls : Catalog → Catalog → ℕ → Bool
falls C C' k = ltb k (latest C').next_file_id && ((file_listed C k || leb (latest C).next_file_id k) && not (file_listed C' k))

abbrev pub entry : ℕ → ℕ → Scheduled → Bool
entry k u x = eqb x.file k && eqb x.start u

-- what the scheduled table gains by a call of time t that hands out hs
pub record Falls (C C' : Catalog) (hs : List ℕ) (t : ℕ) : Type 0 where
  pub gains : (k u : ℕ) → count (entry k u) C'.scheduled ≡ count (entry k u) (filter (λ x. not (has x.file hs)) C.scheduled) + cond (eqb t u) (bit (falls C C' k)) 0

-- the number of records removed, from what is registered, listed and kept: one just if the file falls
lost_is : (registered listed kept old : Bool) (lost : ℕ) → bit listed ≤ bit old → bit kept + lost + bit old ≡ bit listed + bit registered
    → bit (registered && ((listed || not old) && not kept)) ≡ lost
lost_is false l k o n h e = omega arith
lost_is true true true o n h e = omega arith
lost_is true true false o n h e = omega (arith, bit_le o)
lost_is true false true true n h e = omega arith
lost_is true false true false n h e = omega arith
lost_is true false false true n h e = omega arith
lost_is true false false false n h e = omega arith

-- a call that loses so many records of each file, has one of each file that it registers, and schedules just what it loses
falls_of : (C C' : Catalog) → Sound C → Sound C' → (hs : List ℕ) (t : ℕ) (lost : ℕ → ℕ)
    → ((k : ℕ) → records C' k + lost k + bit (ltb k (latest C).next_file_id) ≡ records C k + bit (ltb k (latest C').next_file_id))
    → ((k u : ℕ) → count (entry k u) C'.scheduled ≡ count (entry k u) (filter (λ x. not (has x.file hs)) C.scheduled) + cond (eqb t u) (lost k) 0)
    → Falls C C' hs t
falls_of C C' S S' hs t lost e g = record { gains = λ k u. rw (lost_are k) (g k u) }
  where
    lost_are : (k : ℕ) → bit (falls C C' k) ≡ lost k
    lost_are k =
        if (ltb k (latest C').next_file_id)
        (λ b. let h = registered_not_absent S' k (ltb-true k (latest C').next_file_id b) in
        rw (leb_not_ltb (latest C).next_file_id k)
        (lost_is (ltb k (latest C').next_file_id) (file_listed C k) (file_listed C' k) (ltb k (latest C).next_file_id) (lost k)
        (omega (arith, listed_count C S k h, file_ids_count C k, S.files.ids k)) (omega (arith, e k, listed_count C S k h, listed_count C' S' k h))))
        (λ b. let z : bit (ltb k (latest C').next_file_id) ≡ 0 = rw b refl in rw b (omega (arith, e k, file_ids_count C k, S.files.ids k)))

nothing_handed : (xs : List Scheduled) → filter (λ x. not (has x.file [])) xs ≡ xs
unfolding any
nothing_handed xs = filter_all (λ x. true) xs (λ x m. refl)

pub commit_falls : (C : Catalog) (d : Change) → Sound C → Good C d → Sound (commit C d) → (t : ℕ) → Falls C (commit C d) List.[] t
commit_falls C d S G S' t =
    falls_of C (commit C d) S S' [] t (λ k. 0)
    (λ k. rw (commit_latest C d) (omega (arith, commit_count C d k, file_ids_count C k, file_ids_count (commit C d) k, ap (count (λ x. eqb x.file k)) same)))
    (λ k u. rw (same, nothing_handed, cond_same) (omega arith))
  where
    same : (commit C d).scheduled ≡ C.scheduled
    same = unfold commit in refl

scheduled_count : {A : Type 0} (uuid : A → Uuid) (time k u : ℕ) (vs : List (Versioned A))
    → count (entry k u) (map (scheduled_file uuid time) vs) ≡ cond (eqb time u) (count (λ v. eqb v.id k) vs) 0
scheduled_count uuid time k u vs = count_map (entry k u) (scheduled_file uuid time) vs ∙ count_and (λ v. eqb v.id k) (eqb time u) vs

pub expire_falls : (C : Catalog) → Sound C → (ids : List ℕ) (time : ℕ) → not (has (latest_id C) ids) ≡ true → Sound (expire C ids time) → Falls C (expire C ids time) List.[] time
expire_falls C S ids time h S' =
    falls_of C (expire C ids time) S S' [] time lost
    (λ k. rw (expire_latest C S ids time h) (omega (arith, expire_count C S ids time h k, file_ids_count C k, file_ids_count (expire C ids time) k, files_gained k)))
    (λ k u. rw nothing_handed (gained k u))
  where
    ns : List Snapshot
    ns = filter (λ n. not (has n.id ids)) C.snapshots

    lost : ℕ → ℕ
    lost k = count (λ f. eqb f.id k) (removed ns C.data_files) + count (λ d. eqb d.id k) (removed ns C.delete_files)

    files_gained : (k : ℕ) → count (λ x. eqb x.file k) (expire C ids time).scheduled ≡ count (λ x. eqb x.file k) C.scheduled + lost k
    files_gained k = unfold expire in simp (count-append, count_sort, count_map)

    gained : (k u : ℕ) → count (entry k u) (expire C ids time).scheduled ≡ count (entry k u) C.scheduled + cond (eqb time u) (lost k) 0
    gained k u = unfold expire in simp (count-append, count_sort, scheduled_count, cond_add)

-- the ids that a cleanup hands out are those of what is due
due_is : (C : Catalog) → Sound C → (t : ℕ) (x : Scheduled) → In x C.scheduled → not (due t x) ≡ not (has x.file (map (λ x. x.file) (filter (due t) C.scheduled)))
due_is C S t x m =
    ap not (same_test (due t x) (has x.file (map (λ x. x.file) (filter (due t) C.scheduled)))
    (λ h. (reflects_has x.file _).from (in_map (λ x. x.file) (in_filter (due t) C.scheduled m h)))
    (λ h. let y = in_map_of (λ x. x.file) (filter (due t) C.scheduled) ((reflects_has x.file _).to h) in
    let r = in_filter_of (due t) C.scheduled y.1 in
    either (count_two (λ z. eqb z.file x.file) m r.0 (eq-eqb x.file x.file refl) (eq-eqb y.0.file x.file (sym y.2)))
    (λ e. ap (due t) e ∙ r.1)
    (λ l. absurd (omega (arith, file_ids_count C x.file, S.files.ids x.file, bit_le (ltb x.file (latest C).next_file_id))))))

pub cleanup_falls : (C : Catalog) → Sound C → (t : ℕ) → Sound (cleanup C t) → Falls C (cleanup C t) (map (λ x. x.file) (filter (due t) C.scheduled)) t
unfolding cleanup
cleanup_falls C S t S' =
    falls_of C (cleanup C t) S S' (map (λ x. x.file) (filter (due t) C.scheduled)) t (λ k. 0) (λ k. omega arith)
    (λ k u. rw (filter_ext (λ x. not (due t x)) (λ x. not (has x.file (map (λ x. x.file) (filter (due t) C.scheduled)))) C.scheduled (due_is C S t), cond_same) (omega arith))
