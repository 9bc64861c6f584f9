-- `capacity` meets its contract: the room of each table by itself.
use Prim.Native.Nat.{ℕ, min}
use mathlib.Core.Path.{◌≡◌, refl}
use lib.ListN.{length}
use Rattle.layout.specs.Records.{snapshot_layout, schema_layout, table_layout, column_layout, data_file_layout, delete_file_layout, statistics_layout, scheduled_layout}
use Rattle.layout.specs.Words.{Words, position_limit, record_room, named_room, capacity}
use Rattle.refusals.proofs.room.capacity.Goals as goal

capacity_is : (w : Words) {a b c d e f g h i : ℕ} → a ≡ record_room snapshot_layout w.snapshots → b ≡ named_room schema_layout w.schemas w.schema_names
    → c ≡ named_room table_layout w.tables w.table_names → d ≡ named_room column_layout w.columns w.column_names
    → e ≡ record_room data_file_layout w.data_files → f ≡ record_room delete_file_layout w.delete_files → g ≡ min position_limit (length w.positions)
    → h ≡ record_room statistics_layout w.statistics → i ≡ record_room scheduled_layout w.scheduled
    → record { snapshots = a; schemas = b; tables = c; columns = d; data_files = e; delete_files = f; positions = g; statistics = h; scheduled = i } ≡ capacity w
unfolding capacity
capacity_is w p q r s t u v x y = rw (p, q, r, s, t, u, v, x, y) refl

pub returns : goal.returns
returns c =
    capacity_is _ c.record_room.ensures c.named_room.ensures c.named_room-2.ensures c.named_room-3.ensures c.record_room-2.ensures
    c.record_room-3.ensures c.smaller.ensures c.record_room-4.ensures c.record_room-5.ensures
