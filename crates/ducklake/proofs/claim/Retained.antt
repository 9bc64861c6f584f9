-- Which snapshots the tables hold: those made and never named by an accepted expiry.
use Prim.Native.Nat.{ℕ, suc, ◌≤◌, ◌<◌}
use mathlib.Core.Path.{◌≡◌, refl, sym, ap, subst, ◌∙◌}
use mathlib.Core.List.{List, [], ◌∷◌, ◌++◌}
use mathlib.Core.Bool.{Bool, true, false, not, ◌&&◌, ◌||◌, or-false, or-true}
use native.Mathlib.Omega.{arith}
use lib.Dec.{leb, eqb}
use borrow.Author.Tests.{leb-true, le-leb, eqb-true, eqb-false}
use Rattle.lists.specs.Lists.{all, any, filter, has}
use Rattle.lists.proofs.Tests.{if, both, and, same_test}
use Rattle.lists.proofs.Members.{All, each, in_filter, in_filter_of, any_in, in_any, all_in, all_append}
use Rattle.lists.proofs.Selections.{any_append}
use Rattle.layout.specs.Catalog.{Catalog}
use Rattle.ducklake.specs.Liveness.{retained, latest_id}
use Rattle.ducklake.specs.Commits.{Change, next_snapshot, commit}
use Rattle.ducklake.specs.Maintenance.{expire, cleanup}
use Rattle.ducklake.proofs.facts.Facts.{Sound}
use Rattle.ducklake.proofs.commits.Moves.{below_latest}
use Rattle.ducklake.proofs.commits.Soundness.{commit_latest}
use Rattle.ducklake.proofs.expiry.Expire.{expire_latest}

-- X: the snapshots that accepted expiries named
pub record Tally (C : Catalog) (X : List ℕ) : Type 0 where
  pub is : (s : ℕ) → retained C.snapshots s ≡ (leb s (latest_id C) && not (has s X))
  pub old : All (λ i. i ≤ latest_id C) X

pub retained_below : {C : Catalog} → Sound C → (s : ℕ) → retained C.snapshots s ≡ true → s ≤ latest_id C
unfolding retained
retained_below {C} S s h =
    let r = any_in (λ n. eqb n.id s) C.snapshots h in
    omega (arith, below_latest S r.0 r.1, eqb-true r.0.id s r.2)

not_in : (s : ℕ) (X : List ℕ) → All (λ i. i < s) X → has s X ≡ false
not_in s X h = if (has s X) (λ b. let r = any_in (eqb s) X b in absurd (omega (arith, eqb-true s r.0 r.2, h.at r.0 r.1))) (λ b. b)

pub retained_commit : (C : Catalog) (d : Change) (s : ℕ) → retained (commit C d).snapshots s ≡ (retained C.snapshots s || eqb (suc (latest_id C)) s)
unfolding retained commit next_snapshot any
retained_commit C d s =
    any_append (λ n. eqb n.id s) C.snapshots (next_snapshot C d ∷ [])
    ∙ ap (λ b. any (λ n. eqb n.id s) C.snapshots || b) (or-false (eqb (suc (latest_id C)) s))

pub commit_tally : (C : Catalog) (d : Change) (X : List ℕ) → Tally C X → Tally (commit C d) X
unfolding next_snapshot
commit_tally C d X T = record {
  is = λ s. retained_commit C d s ∙ (step s ∙ ap (λ m. leb s m && not (has s X)) (sym e));
  old = each (λ i m. omega (arith, e, T.old.at i m));
}
  where
    e : latest_id (commit C d) ≡ suc (latest_id C)
    e = ap (λ n. n.id) (commit_latest C d)

    step : (s : ℕ) → (retained C.snapshots s || eqb (suc (latest_id C)) s) ≡ (leb s (suc (latest_id C)) && not (has s X))
    step s =
        if (eqb (suc (latest_id C)) s)
        (λ b. let q = eqb-true (suc (latest_id C)) s b in
        rw (b, le-leb s (suc (latest_id C)) (omega arith), not_in s X (each (λ i m. omega (arith, T.old.at i m)))) (or-true (retained C.snapshots s)))
        (λ b. let q = eqb-false (suc (latest_id C)) s b in
        rw (b, or-false (retained C.snapshots s), T.is s) (ap (λ z. z && not (has s X)) (same_test (leb s (latest_id C)) (leb s (suc (latest_id C)))
        (λ h. le-leb s (suc (latest_id C)) (omega (arith, leb-true s (latest_id C) h)))
        (λ h. le-leb s (latest_id C) (omega (arith, leb-true s (suc (latest_id C)) h, q))))))

pub retained_expire : (C : Catalog) (ids : List ℕ) (time s : ℕ) → retained (expire C ids time).snapshots s ≡ (retained C.snapshots s && not (has s ids))
unfolding retained expire
retained_expire C ids time s =
    same_test (any (λ n. eqb n.id s) (filter (λ n. not (has n.id ids)) C.snapshots)) (any (λ n. eqb n.id s) C.snapshots && not (has s ids))
    (λ h. let r = any_in (λ n. eqb n.id s) (filter (λ n. not (has n.id ids)) C.snapshots) h in
    let k = in_filter_of (λ n. not (has n.id ids)) C.snapshots r.1 in
    and (in_any (λ n. eqb n.id s) k.0 r.2) (subst (λ i. not (has i ids) ≡ true) (eqb-true r.0.id s r.2) k.1))
    (λ h. let b = both (any (λ n. eqb n.id s) C.snapshots) (not (has s ids)) h in
    let r = any_in (λ n. eqb n.id s) C.snapshots b.0 in
    in_any (λ n. eqb n.id s) (in_filter (λ n. not (has n.id ids)) C.snapshots r.1 (subst (λ i. not (has i ids) ≡ true) (sym (eqb-true r.0.id s r.2)) b.1)) r.2)

pub expire_tally : (C : Catalog) → Sound C → (ids : List ℕ) (time : ℕ) → not (has (latest_id C) ids) ≡ true → all (retained C.snapshots) ids ≡ true
    → (X : List ℕ) → Tally C X → Tally (expire C ids time) (X ++ ids)
expire_tally C S ids time stays known X T = record {
  is = λ s. retained_expire C ids time s ∙ (ap (λ b. b && not (has s ids)) (T.is s) ∙ (shape (leb s (latest_id C)) (has s X) (has s ids)
      ∙ (ap (λ b. leb s (latest_id C) && not b) (sym (any_append (eqb s) X ids)) ∙ ap (λ m. leb s m && not (has s (X ++ ids))) (sym e))));
  old = all_append (each (λ i m. omega (arith, e, T.old.at i m))) (each (λ i m. omega (arith, e, retained_below S i (all_in (retained C.snapshots) ids known m))));
}
  where
    e : latest_id (expire C ids time) ≡ latest_id C
    e = ap (λ n. n.id) (expire_latest C S ids time stays)

    shape : (a b c : Bool) → ((a && not b) && not c) ≡ (a && not (b || c))
    shape true true c = refl
    shape true false c = refl
    shape false b c = refl

pub cleanup_tally : (C : Catalog) (t : ℕ) (X : List ℕ) → Tally C X → Tally (cleanup C t) X
unfolding cleanup retained
cleanup_tally C t X T = record { is = T.is; old = T.old }
