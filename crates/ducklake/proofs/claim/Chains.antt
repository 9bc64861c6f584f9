-- What every accepted call keeps beyond soundness.
use Prim.Native.Nat.{ℕ, suc, ◌+◌}
use mathlib.Core.Path.{◌≡◌, refl, sym, ap, subst, ◌∙◌}
use mathlib.Core.Logic.{◌⊎◌, inl, inr}
use mathlib.Core.List.{List, ◌++◌, map}
use mathlib.Core.Bool.{true, false, not}
use native.Mathlib.Omega.{arith}
use lib.Dec.{eqb}
use lib.ListN.{length}
use borrow.Author.Tests.{eqb-true}
use Rattle.lists.specs.Lists.{has}
use Rattle.lists.proofs.Tests.{if, either, or_left}
use Rattle.lists.proofs.Members.{In, here, in_left, in_right, in_map, in_filter, in_filter_of, All, each, Any, all_map, all_append}
use Rattle.lists.proofs.Selections.{any_append, has_self, has_trans}
use Rattle.lists.proofs.Orders.{any_sort}
use Rattle.layout.specs.declared.outcome.Terms.{Terms}
use Rattle.layout.specs.declared.record.Uuid.{Uuid}
use Rattle.layout.specs.Catalog.{absent, Versioned, DataFile, DeleteFile, Catalog}
use Rattle.ducklake.specs.Liveness.{latest, latest_id, is_live, deleted_at}
use Rattle.ducklake.specs.Refusals.{not_live}
use Rattle.ducklake.specs.Commits.{Commit, create_schema, create_table, insert, delete, drop_table, drop_schema, Change, close, change_of, commit}
use Rattle.ducklake.specs.Maintenance.{expire, cleanup}
use Rattle.ducklake.specs.Calls.{refusals}
use Rattle.ducklake.proofs.facts.Facts.{DeleteFileIn, Sound}
use Rattle.ducklake.proofs.facts.FirstRefusals.{AllPassed}
use Rattle.ducklake.proofs.facts.Below.{data_file_below}
use Rattle.ducklake.proofs.commits.Moves.{close_step, close_named, close_other, in_born, latest_small_lem}
use Rattle.ducklake.proofs.commits.Good.{next_id, data_file_next, delete_file_next, born_delete_files, born_data_files, Covers, Chain}
use Rattle.ducklake.proofs.commits.Deletes.{same_id, old_holds}
use Rattle.ducklake.proofs.expiry.Kept.{kept}
use Rattle.ducklake.proofs.expiry.Expire.{open_kept}

covers_trans : {d e x : Versioned DeleteFile} → Covers d e → Covers e x → Covers d x
covers_trans {d} {e} {x} p q = record { same = q.same ∙ p.same; open' = q.open'; held = has_trans d.body.positions e.body.positions x.body.positions p.held q.held }

-- a change that ends the open delete file of a data file that stays open adds one that covers it
module _ (C : Catalog) (d : Change) (S : Sound C) (H : Chain C)
    (links : (e : Versioned DeleteFile) → In e C.delete_files → (f : Versioned DataFile) → DeleteFileIn e f → f.end ≡ absent → (data_file_next C d f).end ≡ absent
    → e.end ≡ absent → ((delete_file_next C d e).end ≡ absent) ⊎ Any (Covers e) (born_delete_files C d)) where
  still_open : (f : Versioned DataFile) → (data_file_next C d f).end ≡ absent → f.end ≡ absent
  still_open f h = either (close_step (next_id C d) d.ends.data_file f).end (λ e. sym e ∙ h) (λ e. e.0)

  relink : (e : Versioned DeleteFile) → In e C.delete_files → (f : Versioned DataFile) → In f C.data_files → f.id ≡ e.body.data_file → (data_file_next C d f).end ≡ absent
      → Any (Covers (delete_file_next C d e)) (map (delete_file_next C d) C.delete_files ++ born_delete_files C d)
  unfolding close
  relink e m f i q h =
      let r = H.covered e m f i q (still_open f h) in
      let o = S.nest.delete_files.at r.0 r.1 in
      let s = same_id S.ascend.data_files o.0 f o.1 i (o.2.same ∙ (r.2.same ∙ sym q)) in
      either (links r.0 r.1 f (subst (DeleteFileIn r.0) s o.2) (still_open f h) h r.2.open')
      (λ z. (delete_file_next C d r.0, in_left (born_delete_files C d) (in_map (delete_file_next C d) r.1), record { same = r.2.same; open' = z; held = r.2.held }))
      (λ z. let t = covers_trans r.2 z.2 in
      (z.0, in_right (map (delete_file_next C d) C.delete_files) z.1, record { same = t.same; open' = t.open'; held = t.held }))

  linked_chain : Chain (commit C d)
  unfolding commit
  linked_chain = record { covered = λ e m f i. (rest.at e m).at f i }
    where
      Linked : Versioned DeleteFile → Versioned DataFile → Type 0
      Linked e f = f.id ≡ e.body.data_file → f.end ≡ absent → Any (Covers e) (map (delete_file_next C d) C.delete_files ++ born_delete_files C d)

      rest : All (λ e. All (Linked e) (map (data_file_next C d) C.data_files ++ born_data_files C d)) (map (delete_file_next C d) C.delete_files ++ born_delete_files C d)
      rest = all_append
          (all_map (delete_file_next C d) C.delete_files (λ e m. all_append
          (all_map (data_file_next C d) C.data_files (λ f i. unfold close in (λ q h. relink e m f i q h)))
          (each (λ f i. unfold close in (λ q h.
          let o = S.nest.delete_files.at e m in
          absurd (omega (arith, o.2.same, data_file_below S o.0 o.1, (in_born (next_id C d) ((latest C).next_file_id + length d.added.delete_files) d.added.data_files i).low)))))))
          (each (λ e m. each (λ f i q h. (
            e,
            in_right (map (delete_file_next C d) C.delete_files) m,
            record { same = refl; open' = (in_born (next_id C d) (latest C).next_file_id d.added.delete_files m).end; held = has_self e.body.positions },
          ))))

module _ (C : Catalog) (S : Sound C) (H : Chain C) where
  -- a commit that ends no delete file
  ends_none : (d : Change) → ((e : Versioned DeleteFile) → d.ends.delete_file e ≡ false) → Chain (commit C d)
  ends_none d z = linked_chain C d S H (λ e m f g o p q. inl (close_other (next_id C d) d.ends.delete_file e (z e) ∙ q))

  -- the new delete file holds the positions of the one that ends
  delete_chain : (time k : ℕ) (uuid : Uuid) (ps : List ℕ) → is_live C.data_files (latest_id C) k ≡ true → Chain (commit C (change_of C time (delete k uuid ps)))
  unfolding change_of
  delete_chain time k uuid ps l =
      linked_chain C (change_of C time (delete k uuid ps)) S H (λ e m f g o p q. if (eqb e.body.data_file k)
      (λ b. let s = eqb-true e.body.data_file k b in
      inr (
        _,
        here refl,
        record {
          same = sym s;
          open' = refl;
          held = each (λ x i. any_sort (eqb x) (λ p. p) (deleted_at C.delete_files (latest_id C) k ++ ps) ∙ (any_append (eqb x) (deleted_at C.delete_files (latest_id C) k) ps
              ∙ or_left (has x (deleted_at C.delete_files (latest_id C) k)) (has x ps) ((old_holds C S k l H e m s).at x i)));
        },
      ))
      (λ b. inl (close_other (suc (latest_id C)) (λ d. eqb d.body.data_file k) e b ∙ q)))

  -- a delete file ends with its data file
  drop_chain : (time k : ℕ) → Chain (commit C (change_of C time (drop_table k)))
  unfolding change_of
  drop_chain time k =
      linked_chain C (change_of C time (drop_table k)) S H (λ e m f g o p q. if (eqb e.body.table k)
      (λ b. let z = close_named (suc (latest_id C)) (λ f. eqb f.body.table k) f (ap (λ t. eqb t k) g.table ∙ b) o in
      absurd (omega (arith, z, p, (latest_small_lem S).id)))
      (λ b. inl (close_other (suc (latest_id C)) (λ d. eqb d.body.table k) e b ∙ q)))

pub commit_chain : (C : Catalog) → Sound C → Chain C → (terms : Terms) (k : Commit) → AllPassed (refusals C terms k) → Chain (commit C (change_of C terms.time k))
unfolding change_of
commit_chain C S H terms (create_schema name) h = ends_none C S H (change_of C terms.time (create_schema name)) (λ e. refl)
commit_chain C S H terms (create_table schema name columns names) h = ends_none C S H (change_of C terms.time (create_table schema name columns names)) (λ e. refl)
commit_chain C S H terms (insert table record_count uuid statistics) h = ends_none C S H (change_of C terms.time (insert table record_count uuid statistics)) (λ e. refl)
commit_chain C S H terms (delete data_file uuid positions) h =
    delete_chain C S H terms.time data_file uuid positions (h not_live)
commit_chain C S H terms (drop_table table) h = drop_chain C S H terms.time table
commit_chain C S H terms (drop_schema schema) h = ends_none C S H (change_of C terms.time (drop_schema schema)) (λ e. refl)

pub expire_chain : (C : Catalog) → Sound C → Chain C → (ids : List ℕ) (time : ℕ) → not (has (latest_id C) ids) ≡ true → Chain (expire C ids time)
unfolding expire
expire_chain C S H ids time h = record {
  covered = λ d m f i q o.
      let r = H.covered d (in_filter_of (kept C ids) C.delete_files m).0 f (in_filter_of (kept C ids) C.data_files i).0 q o in
      (r.0, in_filter (kept C ids) C.delete_files r.1 (open_kept C S ids time h r.0 (S.lives.delete_files.at r.0 r.1) r.2.open'), r.2);
}

pub cleanup_chain : (C : Catalog) → Chain C → (t : ℕ) → Chain (cleanup C t)
unfolding cleanup
cleanup_chain C H t = record { covered = H.covered }
