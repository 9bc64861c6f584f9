-- `catalog_play` meets its contract: each call is played on what the one before left, and told behind it.
use Rattle.layout.specs.Words.{lent}
use Rattle.catalog_player.specs.Lasting.{Lasting}
use Rattle.catalog_player.proofs.Held.{Held}
use Rattle.catalog_player.proofs.session.catalog_play.Given as goal

abbrev pub invariant-loop-i : goal.invariant-loop-i
invariant-loop-i l =
    Held l.calls l.lists l.names (lent l.initial.snapshots l.initial.schemas l.initial.schema_names l.initial.tables l.initial.table_names l.initial.columns l.initial.column_names l.initial.data_files l.initial.delete_files l.initial.positions l.initial.statistics l.initial.scheduled) l.initial.held l.initial.area l.initial.told l.n l.i (lent l.snapshots l.schemas l.schema_names l.tables l.table_names l.columns l.column_names l.data_files l.delete_files l.positions l.statistics l.scheduled) l.held l.area l.answered l.told
    × Lasting l.judged (lent l.snapshots l.schemas l.schema_names l.tables l.table_names l.columns l.column_names l.data_files l.delete_files l.positions l.statistics l.scheduled) l.held
