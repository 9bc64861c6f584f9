-- What an expiry keeps: what a record that stays lies in stays, and so do the statistics and columns of a file that stays.
use Prim.Native.Nat.{ℕ, ◌<◌}
use mathlib.Core.Path.{◌≡◌, sym, subst, ◌∙◌}
use mathlib.Core.List.{List}
use mathlib.Core.Bool.{Bool, true, not, ◌&&◌}
use native.Mathlib.Omega.{arith}
use lib.Dec.{eqb}
use borrow.Author.Tests.{eqb-true, eq-eqb}
use Rattle.lists.specs.Lists.{any, has, filter}
use Rattle.lists.proofs.Tests.{both}
use Rattle.lists.proofs.Members.{In, Any, Pairwise, in_filter, in_filter_of, any_in, in_any}
use Rattle.lists.proofs.Selections.{filter-kept}
use Rattle.layout.specs.Catalog.{absent, Versioned, Snapshot, Column, DataFile, DeleteFile, Statistics, Catalog}
use Rattle.ducklake.specs.Liveness.{live, live_at_some, columns_at}
use Rattle.ducklake.specs.Soundness.{in_limit, data_file_in_range, delete_file_in_range, file_statistics, statistics_wanted}
use Rattle.ducklake.specs.Maintenance.{expire}
use Rattle.ducklake.proofs.facts.Facts.{reflects_live, ById, Holds, SameLife, Sound}
use Rattle.ducklake.proofs.commits.Moves.{reflects_small}
use Rattle.ducklake.proofs.commits.Deletes.{same_id}

-- what an expiry leaves: the snapshots that it doesn't name, the records that they show, the statistics of such files
abbrev pub remains : List ℕ → Snapshot → Bool
remains ids n = not (has n.id ids)

module _ (C : Catalog) (ids : List ℕ) where
  abbrev pub staying : List Snapshot
  staying = filter (remains ids) C.snapshots

  abbrev pub kept : {A : Type 0} → Versioned A → Bool
  kept = live_at_some staying

  abbrev pub statistics_kept : Statistics → Bool
  statistics_kept x = any (λ f. eqb f.id x.data_file) (filter kept C.data_files)

-- a file's number is in range

pub data_small : (f : Versioned DataFile) → data_file_in_range f ≡ true → in_limit f.id ≡ true
unfolding data_file_in_range
data_small f h = (both _ _ (both _ _ (both _ _ h).0).0).0

pub delete_small : (d : Versioned DeleteFile) → delete_file_in_range d ≡ true → in_limit d.id ≡ true
unfolding delete_file_in_range
delete_small d h = (both _ _ (both _ _ h).0).0

pub life_holds : {A B : Type 0} {a : Versioned A} {b : Versioned B} → SameLife a b → Holds a b
life_holds l = record { after = omega (arith, l.begin); until = omega (arith, l.end) }

-- what one record holds, a record of its id in the same table holds
pub same_home : {A B : Type 0} {vs : List (Versioned A)} {v w : Versioned A} (b : Versioned B) → Pairwise ById vs → In v vs → In w vs → v.id ≡ w.id → Holds v b → Holds w b
same_home {v = v} {w} b p m n e o = subst (λ x. Holds x b) (same_id p v w m n e) o

module _ (C : Catalog) (S : Sound C) (ids : List ℕ) where
  -- what holds a record that stays, stays
  pub holder_stays : {A B : Type 0} (a : Versioned A) (b : Versioned B) → Holds a b → kept C ids b ≡ true → kept C ids a ≡ true
  unfolding live_at_some
  holder_stays a b o h =
      let r = any_in (λ n. live n.id b) (staying C ids) h in
      let n = (reflects_small r.0).to (S.ranges.snapshots.at r.0 (in_filter_of (remains ids) C.snapshots r.1).0) in
      let s : r.0.id < absent = omega (arith, n.id) in
      let l = (reflects_live r.0.id b s).to r.2 in
      in_any (λ n. live n.id a) r.1 ((reflects_live r.0.id a s).from (omega (arith, o.after, o.until, l.0, l.1)))

  pub home_stays : {A B : Type 0} {R : Versioned A → Type 0} {vs : List (Versioned A)} (b : Versioned B) → kept C ids b ≡ true
      → (h : Any R vs) → Holds h.0 b → Any R (filter (kept C ids) vs)
  home_stays {vs = vs} b k h o = (h.0, in_filter (kept C ids) vs h.1 (holder_stays h.0 b o k), h.2)

module _ (C : Catalog) (S : Sound C) (ids : List ℕ) (time : ℕ) where
  -- where each column of a table that is live at s stays, the columns there are the same
  pub columns_stay : (s k : ℕ) → ((c : Versioned Column) → In c C.columns → c.body.table ≡ k → live s c ≡ true → kept C ids c ≡ true)
      → columns_at (expire C ids time).columns s k ≡ columns_at C.columns s k
  unfolding expire columns_at
  columns_stay s k h =
      filter-kept (λ c. eqb c.body.table k && live s c) (kept C ids) C.columns
      (λ c m e. let b = both (eqb c.body.table k) (live s c) e in h c m (eqb-true c.body.table k b.0) b.1)

  -- the columns of a file's table live as long as the table, which holds the file
  pub wanted_stay : (f : Versioned DataFile) → In f C.data_files → kept C ids f ≡ true → statistics_wanted (expire C ids time).columns f ≡ statistics_wanted C.columns f
  unfolding statistics_wanted
  wanted_stay f m k = columns_stay f.begin f.body.table (λ c i e l.
      let t = S.nest.columns.at c i in
      let u = S.nest.data_files.at f m in
      let o = same_home f S.ascend.tables u.1 t.1 (u.2.same ∙ (sym e ∙ sym t.2.same)) u.2.holds in
      holder_stays C S ids c f (record { after = omega (arith, o.after, t.2.life.begin); until = omega (arith, o.until, t.2.life.end) }) k)

  pub statistics_stay_lem : (f : Versioned DataFile) → In f C.data_files → kept C ids f ≡ true → file_statistics (expire C ids time).statistics f.id ≡ file_statistics C.statistics f.id
  unfolding expire file_statistics
  statistics_stay_lem f m k =
      filter-kept (λ x. eqb x.data_file f.id) (statistics_kept C ids) C.statistics
      (λ x i e. in_any (λ f. eqb f.id x.data_file) (in_filter (kept C ids) C.data_files m k) (eq-eqb f.id x.data_file (sym (eqb-true x.data_file f.id e))))
