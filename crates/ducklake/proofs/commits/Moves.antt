-- How a commit moves records on: an old one stays or is closed, a new one is born.
use Prim.Native.Nat.{ℕ, suc, ◌+◌, ◌≤◌, ◌<◌}
use mathlib.Core.Path.{◌≡◌, refl, ap}
use mathlib.Core.Logic.{◌⊎◌, inl, inr}
use mathlib.Core.List.{List, [], ◌∷◌}
use mathlib.Core.Bool.{Bool, true, false, ◌&&◌}
use native.Mathlib.Omega.{arith}
use lib.Dec.{eqb}
use lib.ListN.{length}
use borrow.Author.Tests.{eqb-true, eq-eqb}
use Rattle.lists.specs.Lists.{any, non_empty, last}
use Rattle.lists.proofs.Tests.{Reflects, if, either, clash, both, same_test, reflects_as, reflects_and, reflects_leb}
use Rattle.lists.proofs.Members.{In, here, next, in_cons, in_nil, All, each, Pairwise, none, more}
use Rattle.lists.proofs.Selections.{last-in, pair_last}
use Rattle.layout.specs.Catalog.{absent, number_limit, Versioned, Snapshot, Table, Catalog}
use Rattle.ducklake.specs.Liveness.{live, no_snapshot, latest, latest_id}
use Rattle.ducklake.specs.Soundness.{snapshot_in_range}
use Rattle.ducklake.specs.Commits.{close, grow, born}
use Rattle.ducklake.proofs.facts.Facts.{reflects_live, ById, Life, Sound}

-- a record moves on to snapshot n
pub record Step {A : Type 0} (n : ℕ) (v w : Versioned A) : Type 0 where
  pub id : w.id ≡ v.id
  pub begin : w.begin ≡ v.begin
  pub end : (w.end ≡ v.end) ⊎ ((v.end ≡ absent) × (w.end ≡ n))

pub close_step : {A : Type 0} (n : ℕ) (p : Versioned A → Bool) (v : Versioned A) → Step n v (close n p v)
unfolding close
close_step n p v = record {
  id = refl;
  begin = refl;
  end = if (p v && eqb v.end absent) (λ e. inr (eqb-true v.end absent (both (p v) (eqb v.end absent) e).1, rw e)) (λ e. inl (rw e));
}

pub table_step : (n : ℕ) (p : Versioned Table → Bool) (r : Versioned Table → ℕ) (t : Versioned Table) → Step n t (close n p (grow r t))
unfolding grow
table_step n p r t = let h = close_step n p (grow r t) in record { id = h.id; begin = h.begin; end = h.end }

-- an open record that is named is closed at n, and any other stays
pub close_named : {A : Type 0} (n : ℕ) (p : Versioned A → Bool) (v : Versioned A) → p v ≡ true → v.end ≡ absent → (close n p v).end ≡ n
unfolding close
close_named n p v h e = rw (h, eq-eqb v.end absent e)

pub close_other : {A : Type 0} (n : ℕ) (p : Versioned A → Bool) (v : Versioned A) → p v ≡ false → (close n p v).end ≡ v.end
unfolding close
close_other n p v h = rw h

-- what a record was that was closed
pub close_cases : {A : Type 0} (n : ℕ) (p : Versioned A → Bool) (v : Versioned A)
    → ((close n p v).end ≡ v.end) ⊎ ((p v ≡ true) × (v.end ≡ absent))
unfolding close
close_cases n p v =
    if (p v && eqb v.end absent) (λ e. let b = both (p v) (eqb v.end absent) e in inr (b.0, eqb-true v.end absent b.1)) (λ e. inl (rw e))

-- an end only comes nearer
pub step_end : {A : Type 0} {n : ℕ} {v w : Versioned A} → Step n v w → n < absent → w.end ≤ v.end
step_end t h = either t.end (λ e. omega (arith, e)) (λ e. omega (arith, e.0, e.1))

-- below n nothing changes
pub live_step : {A : Type 0} {n : ℕ} {v w : Versioned A} (s : ℕ) → Step n v w → s < n → n < absent → live s w ≡ live s v
live_step {n = n} {v} {w} s t h k =
    let b : w.begin ≡ v.begin = t.begin in
    let p = reflects_live s v (omega arith) in
    let q = reflects_live s w (omega arith) in
    same_test (live s w) (live s v)
    (λ e. let r = q.to e in either t.end (λ x. p.from (omega arith)) (λ x. p.from (omega arith)))
    (λ e. let r = p.to e in either t.end (λ x. q.from (omega arith)) (λ x. q.from (omega arith)))

-- a record born at n, with an id from k on, of m of them
pub record Born {A : Type 0} (n k m : ℕ) (xs : List A) (v : Versioned A) : Type 0 where
  pub begin : v.begin ≡ n
  pub end : v.end ≡ absent
  pub low : k ≤ v.id
  pub high : v.id < k + m
  pub body : In v.body xs

pub in_born : {A : Type 0} (n k : ℕ) (xs : List A) {v : Versioned A} → In v (born n k xs) → Born n k (length xs) xs v
in_born n k [] m = in_nil m
in_born n k (x ∷ xs) m =
    either (in_cons m)
    (λ e. record { begin = ap (λ r. r.begin) e; end = ap (λ r. r.end) e; low = rw e (omega arith); high = rw e (omega arith); body = here (ap (λ r. r.body) e) })
    (λ i. let r = in_born n (suc k) xs i in record { begin = r.begin; end = r.end; low = omega (arith, r.low); high = omega (arith, r.high); body = next r.body })

pub born_ascend : {A : Type 0} (n k : ℕ) (xs : List A) → Pairwise ById (born n k xs)
born_ascend n k [] = none
born_ascend {A} n k (x ∷ xs) = more rest (born_ascend n (suc k) xs)
  where
    rest : All (λ (v : Versioned A). k < v.id) (born n (suc k) xs)
    rest = each (λ v m. (in_born n (suc k) xs m).low)

pub pair_born : {A : Type 0} {R : A → A → Type 0} (n k : ℕ) {xs : List A} → Pairwise R xs → Pairwise (λ v w. R v.body w.body) (born n k xs)
pair_born n k none = none
pair_born n k (more {xs = xs} g p) = more (each (λ v m. g.at v.body (in_born n (suc k) xs m).body)) (pair_born n (suc k) p)

pub length_born : {A : Type 0} (n k : ℕ) (xs : List A) → length (born n k xs) ≡ length xs
length_born n k [] = refl
length_born n k (x ∷ xs) = rw (length_born n (suc k) xs)

-- not live before it is born
pub live_born : {A : Type 0} {n k m : ℕ} {xs : List A} {v : Versioned A} (s : ℕ) → Born n k m xs v → s < n → n < absent → live s v ≡ false
live_born {v = v} s b h k =
    if (live s v) (λ e. absurd (omega (arith, ((reflects_live s v (omega arith)).to e).0, b.begin))) (λ e. e)

pub live_at_birth : {A : Type 0} {n k m : ℕ} {xs : List A} {v : Versioned A} → Born n k m xs v → n < absent → live n v ≡ true
live_at_birth {n = n} {v = v} b h = (reflects_live n v h).from (omega (arith, b.begin, b.end))

-- the latest snapshot

some_last : (ns : List Snapshot) → non_empty ns ≡ true → In (last no_snapshot ns) ns
unfolding any
some_last [] h = clash h refl
some_last (n ∷ ns) h = last-in no_snapshot n ns

-- numbers are far below ABSENT
pub record SmallSnapshot (n : Snapshot) : Type 0 where
  pub id : n.id ≤ number_limit
  pub schema_version : n.schema_version ≤ number_limit
  pub next_catalog_id : n.next_catalog_id ≤ number_limit
  pub next_file_id : n.next_file_id ≤ number_limit

pub reflects_small : (n : Snapshot) → Reflects (snapshot_in_range n) (SmallSnapshot n)
unfolding snapshot_in_range
reflects_small n =
    reflects_as
    (reflects_and (reflects_and (reflects_and (reflects_leb n.id number_limit) (reflects_leb n.schema_version number_limit))
    (reflects_leb n.next_catalog_id number_limit)) (reflects_leb n.next_file_id number_limit))
    (λ h. record { id = h.0.0.0; schema_version = h.0.0.1; next_catalog_id = h.0.1; next_file_id = h.1 })
    (λ h. (((h.id, h.schema_version), h.next_catalog_id), h.next_file_id))

pub latest_small_lem : {C : Catalog} → Sound C → SmallSnapshot (latest C)
latest_small_lem {C} S = (reflects_small (latest C)).to (S.ranges.snapshots.at (latest C) (some_last C.snapshots S.rise.some))

pub latest_in_lem : {C : Catalog} → Sound C → In (latest C) C.snapshots
latest_in_lem {C} S = some_last C.snapshots S.rise.some

pub below_latest : {C : Catalog} → Sound C → (n : Snapshot) → In n C.snapshots → n.id ≤ latest_id C
below_latest {C} S n m =
    either (pair_last no_snapshot S.rise.ascend n m) (λ e. omega (arith, ap (λ x. x.id) e)) (λ f. omega (arith, f.id))

-- live at the latest snapshot just where it is open

pub live_open : {A : Type 0} {C : Catalog} (v : Versioned A) → latest_id C < absent → Life C v → live (latest_id C) v ≡ true → v.end ≡ absent
live_open {C = C} v h o l = either o.ended (λ e. e) (λ e. absurd (omega (arith, ((reflects_live (latest_id C) v h).to l).1)))

pub open_live : {A : Type 0} {C : Catalog} (v : Versioned A) → latest_id C < absent → Life C v → v.end ≡ absent → live (latest_id C) v ≡ true
open_live {C = C} v h o e = (reflects_live (latest_id C) v h).from (omega (arith, o.begun, e))

-- live at the next snapshot just where it is at the latest one
pub live_on : {A : Type 0} {C : Catalog} (v : Versioned A) → suc (latest_id C) < absent → Life C v → live (suc (latest_id C)) v ≡ live (latest_id C) v
live_on {C = C} v h o =
    let p = reflects_live (suc (latest_id C)) v h in
    let q = reflects_live (latest_id C) v (omega arith) in
    same_test (live (suc (latest_id C)) v) (live (latest_id C) v)
    (λ e. q.from (omega (arith, o.begun, (p.to e).1)))
    (λ e. p.from (either o.ended (λ x. omega (arith, o.begun, x)) (λ x. absurd (omega (arith, x, (q.to e).1)))))
