-- What holds of the tables after every call, and that `is_listed` of a state is `file_listed` of its catalog.
use Prim.Native.Nat.{ℕ, suc, ◌<◌}
use mathlib.Core.Path.{◌≡◌, refl, sym, ap, ap₂, ◌∙◌}
use mathlib.Core.List.{List}
use mathlib.Core.Bool.{Bool, true, not, ◌&&◌}
use native.Mathlib.Omega.{arith}
use lib.Dec.{leb, eqb}
use lib.ListN.{length}
use borrow.Author.Tests.{eqb-true, eq-eqb}
use Rattle.lists.specs.Lists.{range, any, has}
use Rattle.lists.proofs.Tests.{if, both, and, same_test}
use Rattle.lists.proofs.Members.{In, each, Any, any_in, in_any, range_in}
use Rattle.layout.specs.Catalog.{Snapshot, Catalog}
use Rattle.layout.specs.Names.{name_size, is_name, named_then_zero}
use Rattle.layout.specs.Types.{is_type}
use Rattle.layout.specs.Words.{load, fits}
use Rattle.layout.proofs.RoundTrip.{Named}
use Rattle.ducklake.specs.Liveness.{live, retained, is_live}
use Rattle.ducklake.specs.Soundness.{in_limit, is_flag, schema_in_range, table_in_range, column_in_range, sound}
use Rattle.ducklake.specs.Refusals.{accepted}
use Rattle.ducklake.specs.Readings.{files, query_answer}
use Rattle.ducklake.specs.Claim.{State, is_retained, reading_of, is_listed}
use Rattle.ducklake.proofs.facts.Facts.{Sound, reflects_sound}
use Rattle.ducklake.proofs.commits.Moves.{below_latest}
use Rattle.ducklake.proofs.commits.Good.{Chain}
use Rattle.ducklake.proofs.readings.Answers.{reading_is}
use Rattle.ducklake.proofs.claim.Retained.{Tally}
use Rattle.ducklake.proofs.journal.Journals.{JournalOk}
use Rattle.ducklake.proofs.claim.Listed.{file_listed}

-- a valid name fills its place
last_test : (a b : Bool) → (a && b) ≡ true → b ≡ true
last_test a b h = (both a b h).1

name_long : (name : List ℕ) → is_name name ≡ true → length name ≡ name_size
unfolding is_name
name_long name h = eqb-true (length name) name_size (both _ _ (both _ (named_then_zero name) h).0).0

pub named : {C : Catalog} → Sound C → Named C
unfolding schema_in_range table_in_range column_in_range
named {C} S = record {
  schemas = each (λ v m. name_long v.body.name (last_test (in_limit v.id) _ (S.ranges.schemas.at v m)));
  tables = each (λ v m. name_long v.body.name (last_test (in_limit v.id && in_limit v.body.schema && in_limit v.body.next_row_id) _ (S.ranges.tables.at v m)));
  columns = each (λ v m. name_long v.body.name (last_test (in_limit v.id && in_limit v.body.table && in_limit v.body.order && is_type v.body.type_code && is_flag v.body.nulls_allowed) _ (S.ranges.columns.at v m)));
}

abbrev pub catalog_of : State → Catalog
catalog_of S = load S.words S.counts

-- what holds of the tables after every call
pub record Tables (S : State) : Type 0 where
  pub fit : fits S.words S.counts ≡ true
  pub sound : Sound (catalog_of S)
  pub chain : Chain (catalog_of S)
  pub journal : JournalOk (catalog_of S) S.journal
  pub tally : Tally (catalog_of S) S.expired

pub sound_words : {S : State} → Tables S → sound S.words S.counts ≡ true
sound_words {S} T = (reflects_sound S.words S.counts).from (T.fit, T.sound)

pub retained_is : {S : State} → Tables S → (s : ℕ) → retained (catalog_of S).snapshots s ≡ is_retained S s
retained_is {S} T s = T.tally.is s ∙ ap (λ m. leb s m && not (has s S.expired)) (sym T.journal.now)

-- the files of a table at a retained snapshot
module _ (S : State) (T : Tables S) (s : ℕ) (h : retained (catalog_of S).snapshots s ≡ true) (k : ℕ) where
  in_files : (table : ℕ)
      → (eqb (reading_of S.words S.counts s (files table)).number accepted && has k (reading_of S.words S.counts s (files table)).words)
      ≡ (is_live (catalog_of S).tables s table && has k (query_answer (catalog_of S) s (files table)))
  unfolding any
  in_files table =
      rw (reading_is S.words S.counts s (files table) (sound_words T) h) (if (is_live (catalog_of S).tables s table) (λ b. rw b) (λ b. rw b))

snapshot_of_lem : (C : Catalog) (s : ℕ) → retained C.snapshots s ≡ true → Any (λ n. n.id ≡ s) C.snapshots
unfolding retained
snapshot_of_lem C s h = let r = any_in (λ n. eqb n.id s) C.snapshots h in (r.0, r.1, eqb-true r.0.id s r.2)

pub is_retained_lem : (C : Catalog) (n : Snapshot) → In n C.snapshots → retained C.snapshots n.id ≡ true
unfolding retained
is_retained_lem C n m = in_any (λ x. eqb x.id n.id) m (eq-eqb n.id n.id refl)

table_of : (C : Catalog) (s k : ℕ) → is_live C.tables s k ≡ true → Any (λ t. t.id ≡ k) C.tables
unfolding is_live
table_of C s k h =
    let r = any_in (λ v. eqb v.id k && live s v) C.tables h in (r.0, r.1, eqb-true r.0.id k (both _ (live s r.0) r.2).0)

-- a file list at a retained snapshot is that of a table on record, whatever its id
listed_by : (C : Catalog) (s table k : ℕ) → retained C.snapshots s ≡ true → (is_live C.tables s table && has k (query_answer C s (files table))) ≡ true → file_listed C k ≡ true
unfolding file_listed
listed_by C s table k h e =
    let shown : ℕ → ℕ → Bool = λ s table. is_live C.tables s table && has k (query_answer C s (files table)) in
    let n = snapshot_of_lem C s h in
    let t = table_of C s table (both (is_live C.tables s table) _ e).0 in
    in_any (λ n. any (λ t. shown n.id t.id) C.tables) n.1 (in_any (λ t. shown n.0.id t.id) t.1 (ap₂ shown n.2 t.2 ∙ e))

pub listed_is : (S : State) → Tables S → (k : ℕ) → is_listed S k ≡ file_listed (catalog_of S) k
unfolding is_listed file_listed
listed_is S T k = same_test _ _ to from
  where
    C : Catalog
    C = catalog_of S

    inside : ℕ → ℕ → Bool
    inside s table = eqb (reading_of S.words S.counts s (files table)).number accepted && has k (reading_of S.words S.counts s (files table)).words

    shown : ℕ → ℕ → Bool
    shown s table = is_live C.tables s table && has k (query_answer C s (files table))

    to : any (λ s. is_retained S s && any (inside s) (range 0 S.journal.next_catalog_id)) (range 0 (suc S.journal.latest)) ≡ true
        → any (λ n. any (λ t. shown n.id t.id) C.tables) C.snapshots ≡ true
    to h =
        let r = any_in (λ s. is_retained S s && any (inside s) (range 0 S.journal.next_catalog_id)) (range 0 (suc S.journal.latest)) h in
        let b = both (is_retained S r.0) (any (inside r.0) (range 0 S.journal.next_catalog_id)) r.2 in
        let kept : retained C.snapshots r.0 ≡ true = retained_is T r.0 ∙ b.0 in
        let q = any_in (inside r.0) (range 0 S.journal.next_catalog_id) b.1 in
        let e : shown r.0 q.0 ≡ true = sym (in_files S T r.0 kept k q.0) ∙ q.2 in
        listed_by C r.0 q.0 k kept e

    from : any (λ n. any (λ t. shown n.id t.id) C.tables) C.snapshots ≡ true
        → any (λ s. is_retained S s && any (inside s) (range 0 S.journal.next_catalog_id)) (range 0 (suc S.journal.latest)) ≡ true
    from h =
        let r = any_in (λ n. any (λ t. shown n.id t.id) C.tables) C.snapshots h in
        let q = any_in (λ t. shown r.0.id t.id) C.tables r.2 in
        let kept = is_retained_lem C r.0 r.1 in
        let low : r.0.id < suc S.journal.latest = omega (arith, below_latest T.sound r.0 r.1, T.journal.now) in
        let below : q.0.id < S.journal.next_catalog_id = omega (arith, T.sound.files.tables_below.at q.0 q.1, T.journal.next_catalog_id) in
        in_any (λ s. is_retained S s && any (inside s) (range 0 S.journal.next_catalog_id)) (range_in 0 (suc S.journal.latest) r.0.id (omega arith) (omega arith))
        (and (sym (retained_is T r.0.id) ∙ kept)
        (in_any (inside r.0.id) (range_in 0 S.journal.next_catalog_id q.0.id (omega arith) (omega arith)) (in_files S T r.0.id kept k q.0.id ∙ q.2)))

-- a file that any file list at a retained snapshot holds is listed
pub listed_anywhere_lem : (S : State) → Tables S → (s table k : ℕ) → is_retained S s ≡ true → (reading_of S.words S.counts s (files table)).number ≡ accepted
    → has k (reading_of S.words S.counts s (files table)).words ≡ true → is_listed S k ≡ true
listed_anywhere_lem S T s table k h a b =
    let kept : retained (catalog_of S).snapshots s ≡ true = retained_is T s ∙ h in
    listed_is S T k ∙ listed_by (catalog_of S) s table k kept (sym (in_files S T s kept k table) ∙ and (eq-eqb (reading_of S.words S.counts s (files table)).number accepted a) b)
