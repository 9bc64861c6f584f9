-- Where the positions of a data file lie that are deleted: in the part of its one live delete file, or nowhere.
use Rattle.std.specs.Prelude.{None, Option, Some}
use Prim.Native.Nat.{ℕ, ◌+◌, ◌≤◌, ◌<◌}
use mathlib.Core.Path.{◌≡◌, refl, sym, ap, ap₂, ◌∙◌, subst}
use mathlib.Core.Bool.{Bool, ◌&&◌}
use mathlib.Core.List.{List, [], ◌∷◌, flat_map, append-nil}
use native.Mathlib.Omega.{arith}
use lib.Dec.{eqb}
use lib.ListN.{length, take, drop, length-take, length-drop}
use Rattle.lists.specs.Lists.{range, place, filter}
use Rattle.lists.proofs.Members.{In, here, next, in_nil, in_filter, in_map, in_map_of, in_range_lem, range_in}
use Rattle.lists.proofs.Places.{Placed, placed, found_tells}
use Rattle.lists.proofs.Selections.{filter_none}
use Rattle.layout.specs.Catalog.{Versioned, Snapshot, DeleteFile}
use Rattle.layout.specs.Words.{delete_file_at, delete_files_in, delete_count, positions_before, positions_at}
use Rattle.layout.proofs.RoundTrip.{positions_end}
use Rattle.ducklake.specs.Liveness.{live, delete_files_at, deleted_at}
use Rattle.row_deletion.specs.Deleted.{DeletesKnown, DeletedPart}

-- a member of a list of one at most
only : {A : Type 0} {x : A} (xs : List A) → length xs ≤ 1 → In x xs → xs ≡ x ∷ []
only [] h m = in_nil m
only (y ∷ []) h (here e) = ap (λ z. z ∷ []) (sym e)
only (y ∷ []) h (next m) = in_nil m
only (y ∷ (z ∷ zs)) h m = absurd (omega arith)

module _ (run : List ℕ) (n s file : ℕ) {r : Option ℕ} (e : (positions : List ℕ) → r ≡ place (λ d. eqb d.body.data_file file && live s d) 0 (delete_files_in run positions n)) where
  abbrev hit : Versioned DeleteFile → Bool
  hit d = eqb d.body.data_file file && live s d

  pub found_within : {i : ℕ} → r ≡ Some i → i < n
  found_within q = (found_tells (delete_file_at run []) hit n (e []) q).0

  there : (positions : List ℕ) {i : ℕ} → r ≡ Some i → length (delete_files_at (delete_files_in run positions n) s file) ≤ 1 → positions_at run positions i ≡ deleted_at (delete_files_in run positions n) s file
  unfolding deleted_at delete_files_at flat_map
  there positions {i} q h =
      let t = found_tells (delete_file_at run positions) hit n (e positions) q in
      let m = in_filter hit (delete_files_in run positions n) (in_map (delete_file_at run positions) (range_in 0 n i (omega arith) (omega (arith, t.0)))) t.1 in
      sym (rw (only (filter hit (delete_files_in run positions n)) h m) (append-nil (positions_at run positions i)))

  pub part_there : {i a k : ℕ} → r ≡ Some i → a ≡ positions_before run i → k ≡ delete_count run i → DeletedPart run n s file a k
  part_there {i} {a} {k} q f g = record {
    within = omega (arith, f, g, positions_end run i n (found_within q));
    words = λ positions K. ap₂ (λ x y. take x (drop y positions)) g f ∙ there positions q (K.single s file);
  }

  nowhere : (positions : List ℕ) → r ≡ None → [] ≡ deleted_at (delete_files_in run positions n) s file
  unfolding deleted_at delete_files_at flat_map
  nowhere positions q =
      let t : Placed (delete_file_at run positions) hit 0 (0 + n) None = subst (Placed (delete_file_at run positions) hit 0 (0 + n)) (sym (e positions) ∙ q) (placed (delete_file_at run positions) hit n 0) in
      sym (rw (filter_none hit (delete_files_in run positions n) (λ d m. let a = in_map_of (delete_file_at run positions) (range 0 n) m in let b = in_range_lem 0 n a.1 in ap hit a.2 ∙ t a.0 (omega arith) (omega arith))) refl)

  pub part_nowhere : r ≡ None → DeletedPart run n s file 0 0
  part_nowhere q = record { within = omega arith; words = λ positions K. nowhere positions q }

-- as many words as the positions that are deleted at a snapshot
pub part_count : {run positions : List ℕ} {n file a k : ℕ} {s t : Snapshot} → DeletesKnown run positions n → s ≡ t → DeletedPart run n s.id file a k
    → k ≡ length (deleted_at (delete_files_in run positions n) t.id file)
part_count {run} {positions} {n} {file} {s = s} K e D =
    sym (ap length (ap (λ (u : Snapshot). deleted_at (delete_files_in run positions n) u.id file) (sym e) ∙ sym (D.words positions K))
    ∙ simp (length-take, length-drop) (omega (arith, D.within, K.held.within)))
