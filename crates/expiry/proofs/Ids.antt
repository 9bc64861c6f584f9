-- The ids of the snapshots that remain, written at the front of a run: they are read there, and ascend as the snapshots do.
use Prim.Native.Nat.{ℕ, ◌+◌}
use mathlib.Core.Path.{◌≡◌, ap, ◌∙◌}
use mathlib.Core.Bool.{true}
use mathlib.Core.List.{List, map}
use lib.Dec.{ltb}
use lib.ListN.{length, take, drop}
use Rattle.std.proofs.Math.Seq.{take-append_seam}
use Rattle.lists.specs.Lists.{range, chained}
use Rattle.lists.specs.Runs.{overwrite, field, fields}
use Rattle.lists.proofs.Orders.{ascending_kept}
use Rattle.lists.proofs.Selections.{map-map}
use Rattle.layout.specs.Fields.{snapshot_size, snapshot_id_word}
use Rattle.layout.specs.Words.{snapshot_at, snapshots_in}
use Rattle.ducklake.specs.Maintenance.{leaves, remaining}

pub ids_written : (w xs : List ℕ) {v : List ℕ} {k : ℕ} → k ≡ length xs → v ≡ overwrite w 0 xs → take k v ≡ xs
unfolding overwrite
ids_written w xs {v} {k} e d = rw (e, d) (take-append_seam xs (drop (0 + length xs) w))

pub remaining_ascend : (run : List ℕ) (n : ℕ) (ids : List ℕ) → chained ltb (fields snapshot_size snapshot_id_word run n) ≡ true
    → chained ltb (map (λ s. s.id) (remaining (snapshots_in run n) ids)) ≡ true
unfolding field
remaining_ascend run n ids e = ascending_kept (leaves ids) (λ s. s.id) (snapshots_in run n) (ap (chained ltb) (map-map (λ s. s.id) (snapshot_at run) (range 0 n)) ∙ e)
