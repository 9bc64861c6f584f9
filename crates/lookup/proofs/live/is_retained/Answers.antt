-- `is_retained` meets its contract: a snapshot of that id is there just where it has a place.
use Prim.Native.Nat.{ℕ}
use mathlib.Core.Path.{◌≡◌, sym, ap, ◌∙◌}
use mathlib.Core.List.{List}
use lib.Dec.{eqb}
use Rattle.lists.specs.Lists.{range, place}
use Rattle.lists.specs.Runs.{field, fields}
use Rattle.lists.proofs.Places.{is_at, any_place}
use Rattle.lists.proofs.Selections.{any_map}
use Rattle.layout.specs.Fields.{snapshot_size, snapshot_id_word}
use Rattle.layout.specs.Words.{snapshot_at, snapshots_in}
use Rattle.ducklake.specs.Liveness.{retained}
use Rattle.lookup.proofs.live.is_retained.Goals as goal

retained_place : (run : List ℕ) (n s : ℕ) → retained (snapshots_in run n) s ≡ is_at (place (λ y. eqb y s) 0 (fields snapshot_size snapshot_id_word run n))
unfolding field retained
retained_place run n s =
    any_map (λ v. eqb v.id s) (snapshot_at run) (range 0 n) ∙ (sym (any_map (λ y. eqb y s) (field snapshot_size snapshot_id_word run) (range 0 n)) ∙ any_place (λ y. eqb y s) 0 (fields snapshot_size snapshot_id_word run n))

pub returns : goal.returns
returns c = c.is_some.ensures ∙ (ap is_at c.find_snapshot.ensures ∙ sym (retained_place _ _ _))
