-- What the writes of a delete rely on, and what they come to: the runs of any words that fit become those of its effect.
use Prim.Native.Nat.{ℕ, ◌+◌, ◌*◌, ◌≤◌}
use mathlib.Core.Path.{◌≡◌, refl, sym, ap, ◌∙◌}
use mathlib.Core.Bool.{true}
use mathlib.Core.List.{List, ◌++◌}
use native.Mathlib.Omega.{arith}
use lib.Dec.{ltb}
use lib.ListN.{length, take, drop, length-append}
use Rattle.lists.specs.Lists.{chained, sort_by}
use Rattle.lists.specs.Runs.{overwrite}
use Rattle.lists.proofs.Orders.{length_sort}
use Rattle.layout.specs.declared.outcome.Counts.{Counts}
use Rattle.layout.specs.declared.outcome.Terms.{Terms}
use Rattle.layout.specs.declared.record.Uuid.{Uuid}
use Rattle.layout.specs.Fields.{delete_file_size, delete_file_data_file_word, delete_file_end_word}
use Rattle.layout.specs.Records.{delete_file_words}
use Rattle.layout.specs.Catalog.{Versioned, Snapshot, DataFile, delete_file_record}
use Rattle.layout.specs.Words.{Words, load, store, fits, data_files_in}
use Rattle.ducklake.specs.Kinds.{deleted_from_table}
use Rattle.ducklake.specs.Liveness.{data_file_of_id}
use Rattle.ducklake.specs.Commits.{delete, following}
use Rattle.ducklake.specs.Calls.{commit_at, effect}
use Rattle.call_laws.specs.Writes.{end_records, opened}
use Rattle.call_laws.proofs.CommitWords.{delete_words}
use Rattle.commits.specs.Written.{SnapshotAppended}
use Rattle.commits.proofs.Effects.{latest_in}
use Rattle.row_deletion.specs.Deleted.{DeletesKnown, DeletedPart, deleted_in}
use Rattle.row_deletion.specs.Lent.{delete_leaves}
use Rattle.row_deletion.specs.DeleteRoom.{Mergeable, DeleteRoom}
use Rattle.row_deletion.proofs.Parts.{part_count}

-- the old positions, so many from a on, and the new ones have room behind those in use, and ascend
module _ {ns fs ds ps : List ℕ} {c : Counts} {file : ℕ} {new : List ℕ} (R : DeleteRoom ns fs ds ps c file new)
    {l : Snapshot} (e : l ≡ latest_in ns c.snapshots) {a m : ℕ} (D : DeletedPart ds c.delete_files l.id file a m) where
  pub positions_held_lem : m + length new ≡ length (deleted_in ns ds ps c file) + length new
  positions_held_lem = ap (λ k. k + length new) (part_count R.deletes e D)

  pub positions_room : c.positions + (m + length new) ≤ length ps
  positions_room = omega (arith, R.positions, positions_held_lem)

  pub positions_merge : Mergeable ps a m c.positions new
  positions_merge = record {
    inside = omega (arith, D.within, R.used);
    room = positions_room;
    old_ascend = ap (chained ltb) (D.words ps R.deletes) ∙ R.deletes.ascending l.id file;
    new_ascend = R.ascending;
  }

module _ (w : Words) (c : Counts) (h : fits w c ≡ true) (terms : Terms) (file : ℕ) (uuid : Uuid) (new : List ℕ) where
  abbrev n : ℕ
  n = c.delete_files

  -- the words of the new delete file
  abbrev new_file : ℕ → ℕ → ℕ → List ℕ → List ℕ
  new_file begin id table qs = delete_file_words (delete_file_record (opened begin id (record { table = table; data_file = file; positions = qs; uuid = uuid })))

  pub delete_stored : {l : Snapshot} {f : Versioned DataFile} {k a m d : ℕ} {ns ns' fs ds ds₁ ds' ps ps' : List ℕ} → w.snapshots ≡ ns → w.data_files ≡ fs → w.delete_files ≡ ds → w.positions ≡ ps
      → l ≡ latest_in ns c.snapshots → f ≡ data_file_of_id (data_files_in fs c.data_files) file → DeletesKnown ds ps n → DeletedPart ds n l.id file a m → d ≡ m + length new
      → SnapshotAppended ns c.snapshots (following (latest_in ns c.snapshots) terms.time deleted_from_table f.body.table 0 1) k ns'
      → ds₁ ≡ end_records delete_file_size delete_file_data_file_word delete_file_end_word file k ds n
      → ((qs : List ℕ) → d ≡ length qs → ds' ≡ overwrite ds₁ (delete_file_size * n) (new_file k l.next_file_id f.body.table qs))
      → ps' ≡ overwrite ps c.positions (sort_by (λ p. p) (take m (drop a ps) ++ new))
      → delete_leaves w ns' ds' ps' ≡ store w c (effect (load w c) (commit_at terms (delete file uuid new)))
  unfolding effect
  delete_stored {l = l} {a = a} {m} {d} {ps = ps} p q r s e g K D z S x E y =
      delete_words w c h terms.time file uuid new {qs = qs} (ap (λ xs. sort_by (λ p. p) (xs ++ new)) (D.words ps K) ∙ rw (e, ← p, ← r, ← s) refl)
      (S.snapshots ∙ rw (g, ← p, ← q) refl) (E qs long ∙ rw (x, S.id, e, g, ← p, ← q, ← r) refl) (y ∙ rw (← s) refl)
    where
      qs : List ℕ
      qs = sort_by (λ p. p) (take m (drop a ps) ++ new)

      long : d ≡ length qs
      long = z ∙ sym (length_sort (λ p. p) (take m (drop a ps) ++ new) ∙ (length-append (take m (drop a ps)) new ∙ ap (λ k. k + length new) (ap length (D.words ps K) ∙ sym (part_count {s = l} K refl D))))
