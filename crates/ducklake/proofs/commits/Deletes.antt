-- The open delete file of an open data file.
use Prim.Native.Nat.{ℕ, ◌<◌}
use mathlib.Core.Path.{◌≡◌, sym, ap, ◌∙◌}
use mathlib.Core.Logic.{◌⊎◌, inl, inr}
use mathlib.Core.List.{List, [], flat_map, append-nil}
use mathlib.Core.Bool.{Bool, true, ◌&&◌}
use native.Mathlib.Omega.{arith}
use lib.Dec.{eqb}
use borrow.Author.Tests.{eqb-true, eq-eqb}
use Rattle.lists.specs.Lists.{any, has, find}
use Rattle.lists.proofs.Tests.{either, both, and}
use Rattle.lists.proofs.Members.{In, All, each, Any, Pairwise, none, all_nil, pair_two, any_in, in_any, find_in, in_filter, in_flat_map}
use Rattle.lists.proofs.Selections.{filter_one}
use Rattle.layout.specs.Catalog.{absent, Versioned, DeleteFile, Catalog}
use Rattle.ducklake.specs.Liveness.{live, latest_id, delete_files_at, deleted_at, is_live, table_of_id, no_table, data_file_of_id, no_data_file}
use Rattle.ducklake.proofs.facts.Facts.{Sound, Life, ById, DeleteFilesApart}
use Rattle.ducklake.proofs.commits.Moves.{latest_small_lem, live_open, open_live}
use Rattle.ducklake.proofs.commits.Good.{Chain}

-- an id names one record
pub same_id : {A : Type 0} {vs : List (Versioned A)} → Pairwise ById vs → (v w : Versioned A) → In v vs → In w vs → v.id ≡ w.id → v ≡ w
same_id p v w m n e =
    either (pair_two p v w m n) (λ q. q) (λ o. either o (λ l. absurd (omega arith)) (λ l. absurd (omega arith)))

-- the latest snapshot's number is below ABSENT
pub latest_open : {C : Catalog} → Sound C → latest_id C < absent
latest_open S = omega (arith, (latest_small_lem S).id)

-- the open record of an id
pub record Found {A : Type 0} (vs : List (Versioned A)) (k : ℕ) (v : Versioned A) : Type 0 where
  pub mem : In v vs
  pub id : v.id ≡ k
  pub open' : v.end ≡ absent

pub live_found : {A : Type 0} {C : Catalog} → Sound C → (k : ℕ) (vs : List (Versioned A)) → All (Life C) vs
    → any (λ v. eqb v.id k && live (latest_id C) v) vs ≡ true → Any (Found vs k) vs
live_found {C = C} S k vs o h =
    let r = any_in (λ v. eqb v.id k && live (latest_id C) v) vs h in
    let b = both (eqb r.0.id k) (live (latest_id C) r.0) r.2 in
    (r.0, r.1, record { mem = r.1; id = eqb-true r.0.id k b.0; open' = live_open r.0 (latest_open S) (o.at r.0 r.1) b.1 })

first_found : {A : Type 0} {C : Catalog} → Sound C → (k : ℕ) (d : Versioned A) (vs : List (Versioned A)) → All (Life C) vs → Pairwise ById vs
    → any (λ v. eqb v.id k && live (latest_id C) v) vs ≡ true → Found vs k (find (λ v. eqb v.id k) d vs)
first_found S k d vs o p h =
    let r = live_found S k vs o h in
    let v = find (λ v. eqb v.id k) d vs in
    let s = find_in (λ v. eqb v.id k) d vs (in_any (λ v. eqb v.id k) r.1 (eq-eqb r.0.id k r.2.id)) in
    let i : v.id ≡ k = eqb-true v.id k s.1 in
    record { mem = s.0; id = i; open' = ap (λ v. v.end) (same_id p v r.0 s.0 r.1 (i ∙ sym r.2.id)) ∙ r.2.open' }

pub table_found : {C : Catalog} → Sound C → (k : ℕ) → is_live C.tables (latest_id C) k ≡ true → Found C.tables k (table_of_id C.tables k)
unfolding is_live table_of_id
table_found {C} S k h = first_found S k no_table C.tables S.lives.tables S.ascend.tables h

pub data_file_found : {C : Catalog} → Sound C → (k : ℕ) → is_live C.data_files (latest_id C) k ≡ true → Found C.data_files k (data_file_of_id C.data_files k)
unfolding is_live data_file_of_id
data_file_found {C} S k h = first_found S k no_data_file C.data_files S.lives.data_files S.ascend.data_files h

module _ (C : Catalog) (S : Sound C) (k : ℕ) (at : is_live C.data_files (latest_id C) k ≡ true) where
  abbrev hit : Versioned DeleteFile → Bool
  hit d = eqb d.body.data_file k && live (latest_id C) d

  -- an open delete file of the data file
  hit_open : (d : Versioned DeleteFile) → In d C.delete_files → hit d ≡ true → (d.body.data_file ≡ k) × (d.end ≡ absent)
  hit_open d m h =
      let b = both (eqb d.body.data_file k) (live (latest_id C) d) h in
      (eqb-true d.body.data_file k b.0, live_open d (latest_open S) (S.lives.delete_files.at d m) b.1)

  -- two delete files of one data file are not both open
  not_both : (d e : Versioned DeleteFile) → In d C.delete_files → In e C.delete_files → DeleteFilesApart d e → hit d ≡ true → hit e ≡ true → ⊥
  not_both d e i j o p q =
      let a = hit_open d i p in
      let b = hit_open e j q in
      let l = latest_open S in
      either (o (a.0 ∙ sym b.0))
      (λ h. omega (arith, h.ended, a.1, (S.lives.delete_files.at e j).begun))
      (λ h. omega (arith, h.ended, b.1, (S.lives.delete_files.at d i).begun))

  -- none, or those of the one open delete file
  pub old_is : (deleted_at C.delete_files (latest_id C) k ≡ []) ⊎ Any (λ d. (d.body.data_file ≡ k) × (d.end ≡ absent) × (deleted_at C.delete_files (latest_id C) k ≡ d.body.positions)) C.delete_files
  unfolding deleted_at delete_files_at flat_map
  old_is =
      either (filter_one hit S.deletes.apart not_both)
      (λ e. inl (rw e))
      (λ r. let h = hit_open r.0 r.1 r.2.0 in inr (r.0, r.1, (h.0, h.1, rw r.2.1 (append-nil r.0.body.positions))))

  pub old_ascend_lem : Pairwise ◌<◌ (deleted_at C.delete_files (latest_id C) k)
  old_ascend_lem = either old_is (λ e. rw e none) (λ r. rw r.2.2 (S.deletes.positions.at r.0 r.1).ascend)

  pub old_fit : All (λ p. p < (data_file_of_id C.data_files k).body.record_count) (deleted_at C.delete_files (latest_id C) k)
  old_fit =
      either old_is (λ e. rw e all_nil)
      (λ r.
      let f = data_file_found S k at in
      let h = (S.deletes.positions.at r.0 r.1).home in
      let q : h.0 ≡ data_file_of_id C.data_files k = same_id S.ascend.data_files h.0 (data_file_of_id C.data_files k) h.1 f.mem (h.2.same ∙ (r.2.0 ∙ sym f.id)) in
      rw (r.2.2, ← q) h.2.fit)

  -- they hold those of every delete file of the data file
  pub old_holds : Chain C → (d : Versioned DeleteFile) → In d C.delete_files → d.body.data_file ≡ k → All (λ p. has p (deleted_at C.delete_files (latest_id C) k) ≡ true) d.body.positions
  unfolding deleted_at delete_files_at
  old_holds H d m e =
      let f = data_file_found S k at in
      let c = H.covered d m (data_file_of_id C.data_files k) f.mem (f.id ∙ sym e) f.open' in
      let l = open_live c.0 (latest_open S) (S.lives.delete_files.at c.0 c.1) c.2.open' in
      let i = in_filter hit C.delete_files c.1 (and (eq-eqb c.0.body.data_file k (c.2.same ∙ e)) l) in
      each (λ p j.
      let s = any_in (eqb p) c.0.body.positions (c.2.held.at p j) in
      in_any (eqb p) (in_flat_map (λ d. d.body.positions) i s.1) s.2)
