-- The tests of a delete against the definition's: those that are its own; and the place with 17, by the first position that is deleted already.
use Rattle.std.specs.Prelude.{None, Option, Some}
use Prim.Native.Nat.{ℕ, ◌+◌}
use mathlib.Core.Path.{◌≡◌, refl, sym, ap, ◌∙◌}
use mathlib.Core.Bool.{Bool, true, false, not, ◌&&◌}
use mathlib.Core.List.{List, [], ◌∷◌, ◌++◌}
use native.Mathlib.Omega.{arith}
use lib.Dec.{leb, ltb, eqb}
use lib.ListN.{length, get_or}
use borrow.Author.Tests.{eqb-true, lt-ltb}
use Rattle.lists.specs.Lists.{all, pairwise, non_empty, chained, has, place}
use Rattle.lists.proofs.Tests.{if, and, both, clash}
use Rattle.lists.proofs.Places.{is_at, any_place, found_tells}
use Rattle.lists.proofs.Selections.{not_any_all}
use Rattle.layout.specs.declared.outcome.Counts.{Counts}
use Rattle.layout.specs.declared.outcome.Terms.{Terms}
use Rattle.layout.specs.declared.record.Uuid.{Uuid}
use Rattle.layout.specs.Catalog.{Versioned, Snapshot, DataFile, Catalog}
use Rattle.layout.specs.Words.{Words, load, snapshots_in, data_files_in}
use Rattle.ducklake.specs.Kinds.{deleted_from_table}
use Rattle.ducklake.specs.Liveness.{latest_of, latest_id, data_file_of_id, deleted_at}
use Rattle.ducklake.specs.Soundness.{snapshot_in_range, sound}
use Rattle.ducklake.specs.Refusals.{not_sound, no_room, short_answer_area, bad_positions, already_deleted}
use Rattle.ducklake.specs.Arguments.{positions_fit}
use Rattle.ducklake.specs.Commits.{delete, change_of, numbers_fit, following}
use Rattle.ducklake.specs.Calls.{commit_at, offends, place_of, call_refusals, effect, answer, has_room, refusal}
use Rattle.ducklake.proofs.facts.FirstRefusals.{first_refused}
use Rattle.commits.proofs.Judged.{numbers_as}
use Rattle.row_deletion.specs.Deleted.{place_or_zero, refused_place}
use Rattle.row_deletion.specs.Lent.{delete_adds}
use Rattle.row_deletion.proofs.Fits.{one_by_one}

pub positions_ascending : (rows : ℕ) (new : List ℕ) → positions_fit rows new ≡ true → chained ltb new ≡ true
unfolding positions_fit
positions_ascending rows new h = (both (non_empty new) (chained ltb new) (both (non_empty new && chained ltb new) (all (λ p. ltb p rows) new) h).0).1

-- none of the new positions is one of the old: no place is found
pub none_where : (old new : List ℕ) {r : Option ℕ} → r ≡ place (λ p. has p old) 0 new → not (is_at r) ≡ all (λ p. not (has p old)) new
none_where old new e = sym (sym (not_any_all (λ p. has p old) new) ∙ ap not (any_place (λ p. has p old) 0 new ∙ ap is_at (sym e)))

-- The tests

module _ (w : Words) (c : Counts) (file : ℕ) (new : List ℕ) {fs : List ℕ} (q : w.data_files ≡ fs) {v : Versioned DataFile} (g : v ≡ data_file_of_id (data_files_in fs c.data_files) file) where
  -- 16
  pub fit_as : {b : Bool} → b ≡ positions_fit v.body.record_count new → b ≡ positions_fit (data_file_of_id (load w c).data_files file).body.record_count new
  unfolding load
  fit_as h = h ∙ rw (g, ← q) refl

  -- 4
  pub moves_as : {ns : List ℕ} → w.snapshots ≡ ns → {l : Snapshot} → l ≡ latest_of (snapshots_in ns c.snapshots) → (time : ℕ) (uuid : Uuid) {b : Bool} → sound w c ≡ true
      → b ≡ snapshot_in_range (following l time deleted_from_table v.body.table 0 1) → b ≡ numbers_fit (load w c) (change_of (load w c) time (delete file uuid new))
  unfolding load change_of
  moves_as p e time uuid s h = numbers_as w c p e (change_of (load w c) time (delete file uuid new)) 0 1 s (λ t. refl) refl refl (h ∙ rw (g, ← q) refl)

module _ (w : Words) (c : Counts) (file : ℕ) (new : List ℕ) {old : List ℕ} (k : old ≡ deleted_at (load w c).delete_files (latest_id (load w c)) file) where
  -- 17, where 16 is passed
  pub undeleted_as : {b : Bool} → (chained ltb old ≡ true → chained ltb new ≡ true → b ≡ all (λ p. not (has p old)) new) → chained ltb old ≡ true
      → (rows : ℕ) → positions_fit rows new ≡ true → b ≡ all (λ p. not (has p (deleted_at (load w c).delete_files (latest_id (load w c)) file))) new
  undeleted_as h o rows f = rw k at (h o (positions_ascending rows new f))

  -- 2, by what is added
  pub adds_as : {a : Counts} {n : ℕ} → a ≡ delete_adds n → n ≡ length old + length new → a ≡ delete_adds (length (deleted_at (load w c).delete_files (latest_id (load w c)) file) + length new)
  adds_as e h = e ∙ rw (h, k) refl

-- The place

-- what a delete that is refused with 17 passed, and what not
pub record Offence (w : Words) (c : Counts) (file : ℕ) (new : List ℕ) : Type 0 where
  pub sound : sound w c ≡ true
  pub fit : positions_fit (data_file_of_id (load w c).data_files file).body.record_count new ≡ true
  pub taken : all (λ p. not (has p (deleted_at (load w c).delete_files (latest_id (load w c)) file))) new ≡ false

-- one of the positions is deleted already: the first one offends
first_offends : (C : Catalog) (file : ℕ) (new : List ℕ) → all (λ p. not (has p (deleted_at C.delete_files (latest_id C) file))) new ≡ false
    → offends C file new (place_or_zero (place (λ p. has p (deleted_at C.delete_files (latest_id C) file)) 0 new)) ≡ true
unfolding offends
first_offends C file new h = there (place (λ p. has p old) 0 new) refl
  where
    old : List ℕ
    old = deleted_at C.delete_files (latest_id C) file

    there : (r : Option ℕ) → place (λ p. has p old) 0 new ≡ r → (ltb (place_or_zero r) (length new) && has (get_or new (place_or_zero r) 0) old) ≡ true
    there (Some i) q =
        let t = found_tells (λ l. get_or new l 0) (λ p. has p old) (length new) (ap (place (λ p. has p old) 0) (sym (one_by_one new))) q in
        and (lt-ltb i (length new) t.0) t.1
    there None q = clash (sym (none_where old new (sym q))) h

module _ (w : Words) (c : Counts) (m : ℕ) (terms : Terms) (file : ℕ) (uuid : Uuid) (new : List ℕ) {n : ℕ} (e : n ≡ refusal w c m (commit_at terms (delete file uuid new))) where
  abbrev C : Catalog
  C = load w c

  abbrev tests : List (ℕ × Bool)
  tests = (not_sound, sound w c) ∷ call_refusals C (commit_at terms (delete file uuid new)) ++ (no_room, has_room w (effect C (commit_at terms (delete file uuid new)))) ∷ (short_answer_area, leb (length (answer C (commit_at terms (delete file uuid new)))) m) ∷ []

  -- the lines of 1 and 16 stand before that of 17
  pub offence : n ≡ already_deleted → Offence w c file new
  unfolding refusal all pairwise
  offence z = let p = first_refused already_deleted tests (omega arith) refl (sym e ∙ z) in record { sound = p.0 not_sound; fit = p.0 bad_positions; taken = p.1 }

  pub place_right : {old : List ℕ} {i : ℕ} → old ≡ deleted_at C.delete_files (latest_id C) file → i ≡ refused_place n old new → place_of C (commit_at terms (delete file uuid new)) n i ≡ true
  unfolding place_of refused_place
  place_right k q =
      if (eqb n already_deleted)
      (λ b. rw (q, k, b) (first_offends C file new (offence (eqb-true n already_deleted b)).taken))
      (λ b. rw (q, b) refl)
