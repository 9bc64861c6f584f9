-- The counts and the numbers of a commit: its counts are those in use and those of what it adds, since records that end or gain rows stay.
use Prim.Native.Nat.{ℕ, suc, ◌+◌}
use mathlib.Core.Path.{◌≡◌, refl, sym, ap, ap₂, ◌∙◌}
use mathlib.Core.Bool.{true, cond, ◌&&◌, and-true}
use mathlib.Core.List.{List, [], ◌∷◌, ◌++◌, map}
use native.Mathlib.Omega.{arith}
use native.Mathlib.Nat.{add-zero, zero-add}
use lib.Dec.{eqb}
use lib.ListN.{length, length-append, length-map}
use borrow.Author.Tests.{eqb-true, eq-eqb, le-leb}
use Rattle.lists.specs.Lists.{all, sum}
use Rattle.lists.proofs.Tests.{if, same_test}
use Rattle.lists.proofs.Members.{in_all, all_in}
use Rattle.lists.proofs.Selections.{map-append, map-map}
use Rattle.layout.specs.declared.outcome.Counts.{Counts}
use Rattle.layout.specs.declared.outcome.Terms.{Terms}
use Rattle.layout.specs.declared.record.Uuid.{Uuid}
use Rattle.layout.specs.Catalog.{number_limit, Versioned, Snapshot, Table, Catalog}
use Rattle.layout.specs.Words.{Words, load, store, counts_of, capacity, within, fits}
use Rattle.call_laws.specs.Writes.{add_counts}
use Rattle.layout.proofs.Room.{Held, held}
use Rattle.layout.proofs.RoundTrip.{counts_load}
use Rattle.ducklake.specs.Liveness.{latest, latest_id, is_live, table_of_id}
use Rattle.ducklake.specs.Soundness.{in_limit, snapshot_in_range}
use Rattle.ducklake.specs.Commits.{Change, Commit, insert, close, grow, next_snapshot, commit, change_of, numbers_fit, additions, following}
use Rattle.ducklake.specs.Refusals.{accepted}
use Rattle.ducklake.specs.Calls.{commit_at, effect, answer, has_room, refusal, perform, Promise}
use Rattle.ducklake.proofs.facts.Facts.{Sound}
use Rattle.ducklake.proofs.commits.Deletes.{same_id, Found, table_found}
use Rattle.call_laws.proofs.Promises.{outcome, promise_stored}
use Rattle.call_laws.proofs.Ready.{reflects_table}

-- Counts

sum-append : (a b : List ℕ) → sum (a ++ b) ≡ sum a + sum b
unfolding sum
sum-append [] b = sym (zero-add (sum b))
sum-append (x ∷ a) b = rw (sum-append a b) (omega arith)

module _ {A : Type 0} (f : A → A) (xs ys : List A) where
  step_length : length (map f xs ++ ys) ≡ length xs + length ys
  step_length = rw (length-append, length-map) refl

  step_sum : (size : A → ℕ) → ((x : A) → size (f x) ≡ size x) → sum (map size (map f xs ++ ys)) ≡ sum (map size xs) + sum (map size ys)
  step_sum size e = ap sum (map-append size (map f xs) ys) ∙ (sum-append (map size (map f xs)) (map size ys) ∙ ap (λ n. n + sum (map size ys)) (ap sum (map-map size f xs ∙ same xs)))
    where
      same : (zs : List A) → map (λ x. size (f x)) zs ≡ map size zs
      same [] = refl
      same (z ∷ zs) = ap₂ ◌∷◌ (e z) (same zs)

counts_step : (C : Catalog) (d : Change) → counts_of (commit C d) ≡ add_counts (counts_of C) (counts_of (additions C d))
unfolding counts_of commit add_counts close grow
counts_step C d = λ i. record {
  snapshots = length-append C.snapshots (next_snapshot C d ∷ []) i;
  schemas = step_length (close (suc (latest_id C)) d.ends.schema) C.schemas (additions C d).schemas i;
  tables = step_length (λ t. close (suc (latest_id C)) d.ends.table (grow d.rows t)) C.tables (additions C d).tables i;
  columns = step_length (close (suc (latest_id C)) d.ends.column) C.columns (additions C d).columns i;
  data_files = step_length (close (suc (latest_id C)) d.ends.data_file) C.data_files (additions C d).data_files i;
  delete_files = step_length (close (suc (latest_id C)) d.ends.delete_file) C.delete_files (additions C d).delete_files i;
  positions = step_sum (close (suc (latest_id C)) d.ends.delete_file) C.delete_files (additions C d).delete_files (λ v. length v.body.positions) (λ v. refl) i;
  statistics = length-append C.statistics d.added.statistics i;
  scheduled = sym (add-zero (length C.scheduled)) i;
}

module _ (w : Words) (c : Counts) (h : fits w c ≡ true) (d : Change) where
  pub counts_commit : counts_of (commit (load w c) d) ≡ add_counts c (counts_of (additions (load w c) d))
  counts_commit = counts_step (load w c) d ∙ ap (λ (x : Counts). add_counts x (counts_of (additions (load w c) d))) (counts_load w c h)

-- The numbers of a commit

-- the next snapshot, from those of the latest
pub next-is : (C : Catalog) (d : Change) (l : Snapshot) (a b : ℕ) → l ≡ latest C → a ≡ length d.added.schemas + length d.added.tables
    → b ≡ length d.added.delete_files + length d.added.data_files → following l d.time d.kind d.object a b ≡ next_snapshot C d
unfolding next_snapshot
next-is C d l a b e p q = rw (e, p, q) refl

-- those of a commit that adds no rows are those of its snapshot
pub numbers_still : (C : Catalog) (d : Change) {s : Snapshot} → s ≡ next_snapshot C d → ((t : Versioned Table) → d.rows t ≡ 0)
    → all (λ t. in_limit t.body.next_row_id) C.tables ≡ true → snapshot_in_range s ≡ numbers_fit C d
unfolding numbers_fit snapshot_in_range grow
numbers_still C d e z h =
    ap snapshot_in_range e
    ∙ sym (rw (in_all (λ t. in_limit (t.body.next_row_id + d.rows t)) C.tables (λ t m. rw (z t, add-zero) (all_in _ _ h m)), and-true) refl)

-- The counts after a commit, and its room

module _ (w : Words) (c : Counts) (h : fits w c ≡ true) (terms : Terms) (k : Commit) {added : Counts} (e : counts_of (additions (load w c) (change_of (load w c) terms.time k)) ≡ added) where
  pub counts_after : add_counts c added ≡ counts_of (effect (load w c) (commit_at terms k))
  unfolding effect
  counts_after = sym (counts_commit w c h (change_of (load w c) terms.time k) ∙ ap (add_counts c) e)

  -- where there is room for it the runs hold the counts after it
  pub held_after : has_room w (effect (load w c) (commit_at terms k)) ≡ true → Held w (add_counts c added)
  unfolding has_room
  held_after r = held w (add_counts c added) (ap (λ (x : Counts). within x (capacity w)) counts_after ∙ r)

  -- the promise of an accepted commit: its counts are those in use and those that it adds
  pub promise_commit : (area : List ℕ) {n : ℕ} {c' : Counts} {w' : Words} {area' : List ℕ} → n ≡ refusal w c (length area) (commit_at terms k) → n ≡ 0 → c' ≡ add_counts c added
      → w' ≡ store w c (effect (load w c) (commit_at terms k)) → area' ≡ area → Promise (perform (commit_at terms k) w c area) (outcome accepted 0 0 c') w' area'
  unfolding answer
  promise_commit area n z q r s = promise_stored (commit_at terms k) w c area n z refl (q ∙ counts_after) r s

-- of an insert also the row number that its table moves on to: ids ascend, so it is the one table of that id
pub numbers_insert : (C : Catalog) → Sound C → (time table rows : ℕ) (uuid : Uuid) (statistics : List ℕ) {s : Snapshot} {n : ℕ}
    → s ≡ next_snapshot C (change_of C time (insert table rows uuid statistics)) → n ≡ (table_of_id C.tables table).body.next_row_id
    → is_live C.tables (latest_id C) table ≡ true → (snapshot_in_range s && in_limit (n + rows)) ≡ numbers_fit C (change_of C time (insert table rows uuid statistics))
unfolding numbers_fit snapshot_in_range grow change_of
numbers_insert C S time table rows uuid statistics {s} {n} e q live =
    ap₂ (λ a b. snapshot_in_range a && b) e (ap (λ m. in_limit (m + rows)) q ∙ same_test _ _ to from)
  where
    found : Found C.tables table (table_of_id C.tables table)
    found = table_found S table live

    to : in_limit ((table_of_id C.tables table).body.next_row_id + rows) ≡ true → all (λ t. in_limit (t.body.next_row_id + cond (eqb t.id table) rows 0)) C.tables ≡ true
    to h = in_all _ _ (λ t m. if (eqb t.id table)
        (λ b. rw b (ap (λ (v : Versioned Table). in_limit (v.body.next_row_id + rows)) (same_id S.ascend.tables t _ m found.mem (eqb-true t.id table b ∙ sym found.id)) ∙ h))
        (λ b. rw (b, add-zero) (le-leb t.body.next_row_id number_limit ((reflects_table t).to (S.ranges.tables.at t m)).next_row_id)))

    from : all (λ t. in_limit (t.body.next_row_id + cond (eqb t.id table) rows 0)) C.tables ≡ true → in_limit ((table_of_id C.tables table).body.next_row_id + rows) ≡ true
    from h = rw (eq-eqb (table_of_id C.tables table).id table found.id) at (all_in _ _ h found.mem)
