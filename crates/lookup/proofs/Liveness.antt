-- What is live at some retained snapshot: live at the first one from its begin on, since a life is an interval.
use Prim.Native.Nat.{ℕ, ◌≤◌, ◌<◌}
use mathlib.Core.Path.{◌≡◌, refl, sym, ap, ◌∙◌}
use mathlib.Core.Bool.{true, false, ◌||◌}
use mathlib.Core.List.{List, map}
use native.Mathlib.Omega.{arith}
use borrow.Author.Tests.{leb-true, ltb-true, le-leb, lt-ltb}
use lib.Dec.{leb, ltb, eqb}
use Rattle.lists.specs.Lists.{range, any, chained, count}
use Rattle.lists.specs.Runs.{field, fields}
use Rattle.lists.proofs.Tests.{either, both, and, or_cases, or_left, or_right}
use Rattle.lists.proofs.Members.{in_any, in_map, range_in}
use Rattle.lists.proofs.Search.{ascending_weakly, any_past, any_first}
use Rattle.lists.proofs.Selections.{any_maps}
use Rattle.layout.specs.Catalog.{absent, Versioned}
use Rattle.layout.specs.Fields.{snapshot_size, snapshot_id_word}
use Rattle.layout.specs.Words.{snapshot_at, snapshots_in}
use Rattle.ducklake.specs.Liveness.{live, live_at_some}

module _ {A : Type 0} (v : Versioned A) where
  live_from : (s : ℕ) → live s v ≡ true → v.begin ≤ s
  unfolding live
  live_from s h = leb-true v.begin s (both (leb v.begin s) (eqb v.end absent || ltb s v.end) h).0

  -- live from its begin on up to a number at which it is live
  live_down : (s t : ℕ) → v.begin ≤ s → s ≤ t → live t v ≡ true → live s v ≡ true
  unfolding live
  live_down s t b l h =
      and (le-leb v.begin s b)
      (either (or_cases (eqb v.end absent) (ltb t v.end) (both (leb v.begin t) (eqb v.end absent || ltb t v.end) h).1)
      (λ e. or_left (eqb v.end absent) (ltb s v.end) e)
      (λ e. or_right (eqb v.end absent) (ltb s v.end) (lt-ltb s v.end (omega (arith, ltb-true t v.end e)))))

  -- live at one of the snapshots: at one of their ids
  pub live_ids : (run : List ℕ) (n : ℕ) → live_at_some (snapshots_in run n) v ≡ any (λ s. live s v) (fields snapshot_size snapshot_id_word run n)
  unfolding field live_at_some
  live_ids run n = any_maps (λ s. live s.id v) (λ s. live s v) (snapshot_at run) (field snapshot_size snapshot_id_word run) (range 0 n) (λ _. refl)

  -- live at the one at m
  pub live_at_lem : (f : ℕ → ℕ) (n m : ℕ) {x : ℕ} → m < n → x ≡ f m → live x v ≡ true → any (λ s. live s v) (map f (range 0 n)) ≡ true
  live_at_lem f n m h e l = in_any (λ s. live s v) (in_map f (range_in 0 n m (omega arith) (omega arith))) (ap (λ s. live s v) (sym e) ∙ l)

  -- of ascending numbers the first from its begin on is the one at r, or there is none
  module _ (f : ℕ → ℕ) (n r : ℕ) (e : chained ltb (map f (range 0 n)) ≡ true) (c : r ≡ count (λ s. ltb s v.begin) (map f (range 0 n))) where
    pub live_nowhere : n ≤ r → any (λ s. live s v) (map f (range 0 n)) ≡ false
    live_nowhere h = any_past f v.begin n r (ascending_weakly _ e) c (λ s. live s v) live_from h

    pub live_first : r < n → any (λ s. live s v) (map f (range 0 n)) ≡ live (f r) v
    live_first h = any_first f v.begin n r (ascending_weakly _ e) c (λ s. live s v) live_from live_down h
