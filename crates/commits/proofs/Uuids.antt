-- A UUID that no file has: each table of files by itself, its UUIDs as two words of each record.
use Prim.Native.Nat.{ℕ, ◌+◌}
use mathlib.Core.Path.{◌≡◌, refl, sym, ap₂, ◌∙◌}
use mathlib.Core.Bool.{Bool, not, ◌&&◌}
use mathlib.Core.List.{List, map}
use lib.Dec.{eqb}
use Rattle.lists.specs.Lists.{range, all}
use Rattle.lists.specs.Runs.{field, pair_at, pairs}
use Rattle.lists.proofs.Selections.{all_append, all_map, all_maps, not_any_all}
use Rattle.layout.specs.declared.outcome.Counts.{Counts}
use Rattle.layout.specs.declared.record.Uuid.{Uuid}
use Rattle.layout.specs.Fields.{data_file_size, data_file_uuid_high_word, delete_file_size, delete_file_uuid_high_word, scheduled_size, scheduled_uuid_high_word}
use Rattle.layout.specs.Words.{Words, load, data_file_at, delete_file_at, scheduled_at}
use Rattle.ducklake.specs.Soundness.{uuids_of_files, same_uuid}
use Rattle.ducklake.specs.Calls.{uuid_free}

-- two words that aren't those of the UUID
abbrev pub differ : Uuid → ℕ × ℕ → Bool
differ uuid p = not (eqb uuid.high p.0 && eqb uuid.low p.1)

-- none of n records has the UUID
module _ {A : Type 0} (uuid : Uuid) (uuid_of : A → Uuid) (f : ℕ → A) (size word : ℕ) (run : List ℕ) (n : ℕ) where
  nowhere : ((i : ℕ) → not (same_uuid uuid (uuid_of (f i))) ≡ differ uuid (pair_at size word (word + 1) run i))
      → all (differ uuid) (pairs size word (word + 1) run n) ≡ all (λ v. not (same_uuid uuid v)) (map uuid_of (map f (range 0 n)))
  nowhere e = sym (all_map _ uuid_of (map f (range 0 n)) ∙ all_maps _ (differ uuid) f (pair_at size word (word + 1) run) (range 0 n) e)

module _ (w : Words) (c : Counts) (uuid : Uuid) {fs ds xs : List ℕ} (p : w.data_files ≡ fs) (q : w.delete_files ≡ ds) (r : w.scheduled ≡ xs) where
  pub free_is : {x y z : Bool} → x ≡ all (differ uuid) (pairs data_file_size data_file_uuid_high_word (data_file_uuid_high_word + 1) fs c.data_files)
      → y ≡ all (differ uuid) (pairs delete_file_size delete_file_uuid_high_word (delete_file_uuid_high_word + 1) ds c.delete_files)
      → z ≡ all (differ uuid) (pairs scheduled_size scheduled_uuid_high_word (scheduled_uuid_high_word + 1) xs c.scheduled)
      → (x && (y && z)) ≡ uuid_free (load w c) uuid
  unfolding uuid_free uuids_of_files load same_uuid field
  free_is a b d =
      rw (p, q, r)
      (ap₂ ◌&&◌ (a ∙ nowhere uuid (λ f. f.body.uuid) (data_file_at fs) data_file_size data_file_uuid_high_word fs c.data_files (λ i. refl))
      (ap₂ ◌&&◌ (b ∙ nowhere uuid (λ f. f.body.uuid) (delete_file_at ds w.positions) delete_file_size delete_file_uuid_high_word ds c.delete_files (λ i. refl))
      (d ∙ nowhere uuid (λ f. f.uuid) (scheduled_at xs) scheduled_size scheduled_uuid_high_word xs c.scheduled (λ i. refl)))
      ∙ sym (not_any_all (same_uuid uuid) _ ∙ rw (all_append, all_append) refl))
