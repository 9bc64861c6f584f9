-- The snapshots by a time, where times never fall and ids ascend: the first ones, and the last of them has the highest id.
use Prim.Native.Nat.{ℕ, ◌+◌, ◌-◌, ◌≤◌, ◌<◌}
use mathlib.Core.Path.{◌≡◌, refl, sym, ap, ◌∙◌}
use mathlib.Core.Bool.{Bool, true, false}
use mathlib.Core.List.{List, [], ◌∷◌, map, append-nil}
use native.Mathlib.Omega.{arith}
use borrow.Author.Tests.{le-leb, lt-leb}
use lib.Dec.{leb, ltb}
use Rattle.lists.specs.Lists.{any, non_empty, chained, filter, count, highest}
use Rattle.lists.specs.Runs.{from, field, fields}
use Rattle.lists.proofs.Tests.{ltb_suc}
use Rattle.lists.proofs.Members.{In, here, next, in_map, in_map_of, in_any, range_in}
use Rattle.lists.proofs.Counts.{count_ext}
use Rattle.lists.proofs.Selections.{filter-append, filter_all, filter_none}
use Rattle.lists.proofs.Loops.{from_all, from_end}
use Rattle.lists.proofs.Places.{from_split, in_from}
use Rattle.lists.proofs.Search.{never_falling_lem, ascending_weakly, less_below, more_above, below_within}
use Rattle.layout.specs.Catalog.{Snapshot}
use Rattle.layout.specs.Fields.{snapshot_size, snapshot_id_word, snapshot_time_word}
use Rattle.layout.specs.Words.{snapshot_at, snapshots_in}
use Rattle.ducklake.specs.Readings.{snapshots_by_time}

highest_most : (xs : List ℕ) (m : ℕ) → ((x : ℕ) → In x xs → x ≤ m) → highest xs ≤ m
unfolding highest
highest_most [] m h = omega arith
highest_most (x ∷ xs) m h = omega (arith, h x (here refl), highest_most xs m (λ y i. h y (next i)))

highest_least : {x : ℕ} {xs : List ℕ} → In x xs → x ≤ highest xs
unfolding highest
highest_least {xs = []} m = elim m [ ]
highest_least {xs = y ∷ xs} (here e) = omega (arith, e)
highest_least {xs = y ∷ xs} (next i) = omega (arith, highest_least i)

module _ (run : List ℕ) (n t k : ℕ) (times : chained leb (fields snapshot_size snapshot_time_word run n) ≡ true) (e : k ≡ count (λ y. leb y t) (fields snapshot_size snapshot_time_word run n)) where
  through : k ≡ count (λ y. ltb y (t + 1)) (fields snapshot_size snapshot_time_word run n)
  through = e ∙ sym (count_ext _ _ (fields snapshot_size snapshot_time_word run n) (λ y m. ltb_suc y t))

  pub by_most : k ≤ n
  by_most = below_within (field snapshot_size snapshot_time_word run) (t + 1) n times k through

  by_then : (i : ℕ) → i < k → leb (snapshot_at run i).time t ≡ true
  unfolding field
  by_then i h = le-leb _ t (omega (arith, less_below (field snapshot_size snapshot_time_word run) (t + 1) n times k through i h))

  later : (i : ℕ) → k ≤ i → i < n → leb (snapshot_at run i).time t ≡ false
  unfolding field
  later i h l = lt-leb _ t (omega (arith, more_above (field snapshot_size snapshot_time_word run) (t + 1) n times k through i h l))

  passing : filter (λ s. leb s.time t) (snapshots_in run n) ≡ from (snapshot_at run) 0 k
  passing =
      ap (filter p) (from_all (snapshot_at run) n ∙ from_split (snapshot_at run) 0 k n (omega arith) by_most)
      ∙ (filter-append p (from (snapshot_at run) 0 k) (from (snapshot_at run) k n)
      ∙ rw (
        filter_all p (from (snapshot_at run) 0 k) (λ s m. let r = in_from (snapshot_at run) 0 k m in ap p r.3 ∙ by_then r.0 r.2),
        filter_none p (from (snapshot_at run) k n) (λ s m. let r = in_from (snapshot_at run) k n m in ap p r.3 ∙ later r.0 r.1 r.2),
        append-nil,
      ) refl)
    where
      p : Snapshot → Bool
      p s = leb s.time t

  first_ones : snapshots_by_time (snapshots_in run n) t ≡ map (λ s. s.id) (from (snapshot_at run) 0 k)
  unfolding snapshots_by_time
  first_ones = ap (map (λ s. s.id)) passing

  pub by_none : k ≡ 0 → non_empty (snapshots_by_time (snapshots_in run n) t) ≡ false
  unfolding any
  by_none z = rw (first_ones, from_end (snapshot_at run) 0 k (omega arith)) refl

  module _ (h : 0 < k) where
    last_one : In (snapshot_at run (k - 1)).id (snapshots_by_time (snapshots_in run n) t)
    last_one = rw first_ones (in_map (λ s. s.id) (in_map (snapshot_at run) (range_in 0 (k - 0) (k - 1) (omega arith) (omega arith))))

    pub by_some : non_empty (snapshots_by_time (snapshots_in run n) t) ≡ true
    by_some = in_any (λ x. true) last_one refl

    pub by_highest : chained ltb (fields snapshot_size snapshot_id_word run n) ≡ true → highest (snapshots_by_time (snapshots_in run n) t) ≡ (snapshot_at run (k - 1)).id
    unfolding field
    by_highest ids = omega (arith, highest_least last_one, highest_most (snapshots_by_time (snapshots_in run n) t) (snapshot_at run (k - 1)).id most)
      where
        most : (x : ℕ) → In x (snapshots_by_time (snapshots_in run n) t) → x ≤ (snapshot_at run (k - 1)).id
        most x m =
            let a = in_map_of (λ s. s.id) (from (snapshot_at run) 0 k) (rw first_ones at m) in
            let r = in_from (snapshot_at run) 0 k a.1 in
            omega (arith, a.2, ap (λ s. s.id) r.3, never_falling_lem (field snapshot_size snapshot_id_word run) n (ascending_weakly _ ids) r.0 (k - 1) (omega (arith, r.2)) (omega (arith, by_most)))
