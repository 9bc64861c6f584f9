-- `copy_part` meets its contract: the copy overwrites the front of the area.
use mathlib.Core.Path.{◌≡◌, refl, sym, ap}
use mathlib.Core.List.{List, ◌++◌}
use Prim.Native.Nat.{ℕ}
use native.Mathlib.Nat.{zero-add}
use lib.ListN.{length, drop}
use Rattle.lists.specs.Runs.{overwrite}
use Rattle.readings.proofs.AnswerAreas.{answered_short, answered_whole}
use Rattle.file_lookup.proofs.copy.copy_part.Goals as goal

front_written : (area part : List ℕ) {v : List ℕ} → v ≡ part → v ++ drop (length part) area ≡ overwrite area 0 part
unfolding overwrite
front_written area part e = rw e (ap (λ k. part ++ drop k area) (sym (zero-add _)))

pub returns-then-area-part : goal.returns-then-area-part
returns-then-area-part c = answered_short _ _ refl c.if-area-part.true

pub returns : goal.returns
returns c = answered_whole _ _ refl c.if-area-part.false (front_written _ c.args.part.now c.copy_from_slice.ensures.after)
