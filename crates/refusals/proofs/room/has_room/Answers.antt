-- `has_room` meets its contract: the definition compares the same counts.
use Prim.Native.Nat.{◌+◌}
use mathlib.Core.Path.{◌≡◌, refl}
use mathlib.Core.Bool.{Bool, ◌&&◌}
use lib.Dec.{leb}
use Rattle.layout.specs.declared.outcome.Counts.{Counts}
use Rattle.layout.specs.Words.{within}
use Rattle.call_laws.specs.Writes.{add_counts}
use Rattle.refusals.proofs.room.has_room.Goals as goal

within_is : (a b r : Counts) {p q s t u v x y z : Bool} → p ≡ leb (a.snapshots + b.snapshots) r.snapshots → q ≡ leb (a.schemas + b.schemas) r.schemas
    → s ≡ leb (a.tables + b.tables) r.tables → t ≡ leb (a.columns + b.columns) r.columns → u ≡ leb (a.data_files + b.data_files) r.data_files
    → v ≡ leb (a.delete_files + b.delete_files) r.delete_files → x ≡ leb (a.positions + b.positions) r.positions
    → y ≡ leb (a.statistics + b.statistics) r.statistics → z ≡ leb (a.scheduled + b.scheduled) r.scheduled
    → (p && q && s && t && u && v && x && y && z) ≡ within (add_counts a b) r
unfolding within add_counts
within_is a b r e f g h i j k l m = rw (e, f, g, h, i, j, k, l, m) refl

pub returns : goal.returns
returns c =
    within_is _ _ _ c.more_fit-snapshots.ensures c.more_fit-schemas.ensures c.more_fit-tables.ensures c.more_fit-columns.ensures c.more_fit-data_files.ensures
    c.more_fit-delete_files.ensures c.more_fit-positions.ensures c.more_fit-statistics.ensures c.more_fit-scheduled.ensures
