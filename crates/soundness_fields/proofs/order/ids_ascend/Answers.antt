-- `ids_ascend` meets its contract: ids ascend where their words do.
use Rattle.layout.specs.Words.{load}
use Rattle.ducklake.specs.Soundness.{ids_ascend}
use Rattle.soundness_fields.proofs.Ids.{schema_ids_lem, table_ids_lem, data_file_ids_lem, delete_file_ids_lem, column_ids, statistics_ids}
use Rattle.soundness_fields.proofs.order.ids_ascend.Goals as goal

pub returns : goal.returns
unfolding ids_ascend load
returns c w e₁ e₂ e₃ e₄ e₅ e₆ =
    rw (
      e₁,
      e₂,
      e₃,
      e₄,
      e₅,
      e₆,
      c.ascend-a.ensures,
      c.ascend-b.ensures,
      c.ascend-c.ensures,
      c.ascend-d.ensures,
      c.ascend_then-e.ensures,
      c.ascend_then-f.ensures,
      schema_ids_lem _ w.schema_names,
      table_ids_lem _ w.table_names,
      data_file_ids_lem,
      delete_file_ids_lem _ w.positions,
      column_ids _ w.column_names,
      statistics_ids,
    )
