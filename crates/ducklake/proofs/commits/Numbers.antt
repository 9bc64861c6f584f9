-- The numbers of a commit: its snapshot, its limits, and the file numbers that it draws.
use Prim.Native.Nat.{ℕ, suc, ◌+◌, ◌≤◌, ◌<◌}
use mathlib.Core.Path.{◌≡◌, sym, ap}
use mathlib.Core.List.{List, [], ◌∷◌}
use native.Mathlib.Omega.{arith}
use native.Mathlib.Nat.{add_assoc}
use lib.Dec.{ltb, eqb}
use lib.ListN.{length}
use Rattle.lists.specs.Lists.{bit, count}
use Rattle.lists.proofs.Tests.{Reflects, reflects_as, reflects_and, reflects_leb}
use Rattle.lists.proofs.Members.{All, reflects_all}
use Rattle.lists.proofs.Selections.{last-append}
use Rattle.lists.proofs.Counts.{count-append, count_map, one_suc}
use Rattle.layout.specs.Catalog.{absent, number_limit, Catalog}
use Rattle.ducklake.specs.Liveness.{no_snapshot, latest}
use Rattle.ducklake.specs.Soundness.{ids_of_files, snapshot_in_range, file_ids}
use Rattle.ducklake.specs.Commits.{Change, close, grow, born, additions, commit, next_snapshot, numbers_fit}
use Rattle.ducklake.proofs.commits.Moves.{SmallSnapshot, reflects_small}
use Rattle.ducklake.proofs.commits.Good.{next_id, Good}

-- the latest snapshot is the commit's
pub commit_latest : (C : Catalog) (d : Change) → latest (commit C d) ≡ next_snapshot C d
unfolding commit
commit_latest C d = last-append no_snapshot C.snapshots (next_snapshot C d)

-- what the limits of a commit say
pub record Numbers (C : Catalog) (d : Change) : Type 0 where
  pub next : SmallSnapshot (next_snapshot C d)
  pub tables : All (λ t. (grow d.rows t).body.next_row_id ≤ number_limit) C.tables

pub reflects_numbers : (C : Catalog) (d : Change) → Reflects (numbers_fit C d) (Numbers C d)
unfolding numbers_fit snapshot_in_range
reflects_numbers C d =
    reflects_as (reflects_and (reflects_small (next_snapshot C d)) (reflects_all (λ t. reflects_leb (grow d.rows t).body.next_row_id number_limit) C.tables))
    (λ h. record { next = h.0; tables = h.1 }) (λ h. (h.next, h.tables))

-- the new number is far below ABSENT
pub next_small : (C : Catalog) (d : Change) → Good C d → next_id C d < absent
unfolding next_snapshot
next_small C d G = omega (arith, ((reflects_numbers C d).to G.numbers).next.id)

-- new records have the next numbers, each once
count_born : {A : Type 0} (n j : ℕ) (xs : List A) (k : ℕ) → count (λ v. eqb v.id k) (born n j xs) + bit (ltb k j) ≡ bit (ltb k (j + length xs))
unfolding count
count_born n j [] k = let e : j + 0 ≡ j = omega arith in rw e (omega arith)
count_born n j (x ∷ xs) k =
    let e : j + suc (length xs) ≡ suc j + length xs = omega arith in
    rw e (omega (arith, count_born n (suc j) xs k, one_suc j k))

-- each registered file number is one of a record
pub commit_count : (C : Catalog) (d : Change) (k : ℕ)
    → count (λ i. eqb i k) (file_ids (commit C d)) + bit (ltb k (latest C).next_file_id) ≡ count (λ i. eqb i k) (file_ids C) + bit (ltb k (next_snapshot C d).next_file_id)
unfolding commit ids_of_files close next_snapshot
commit_count C d k =
    let n = (latest C).next_file_id in
    let a : count (λ v. eqb v.id k) (additions C d).delete_files + bit (ltb k n) ≡ bit (ltb k (n + length d.added.delete_files)) = count_born (next_id C d) n d.added.delete_files k in
    let b : count (λ v. eqb v.id k) (additions C d).data_files + bit (ltb k (n + length d.added.delete_files)) ≡ bit (ltb k (n + length d.added.delete_files + length d.added.data_files))
    = count_born (next_id C d) (n + length d.added.delete_files) d.added.data_files k in
    let e : bit (ltb k (next_snapshot C d).next_file_id) ≡ bit (ltb k (n + length d.added.delete_files + length d.added.data_files))
    = ap (λ m. bit (ltb k m)) (sym (add_assoc n (length d.added.delete_files) (length d.added.data_files))) in
    simp (count-append, count_map) (omega (arith, a, b, e))
