-- `fields_in_range` meets its contract: it is the test of each table, which tests each record.
use Rattle.std.proofs.Common.{rules, refl}
use Rattle.std.proofs.lemmas.Iterator.{YieldsList-from_range}
use Rattle.layout.specs.Words.{load, snapshot_at, schema_at, table_at, column_at, data_file_at, delete_file_at, statistics_at}
use Rattle.ducklake.specs.Soundness.{snapshot_in_range, schema_in_range, table_in_range, column_in_range, data_file_in_range, delete_file_in_range, statistics_in_range, fields_in_range}
use Rattle.soundness_fields.proofs.Everywhere.{all_places}
use Rattle.soundness_fields.proofs.ranges.fields_in_range.Goals as goal

pub returns : goal.returns
unfolding fields_in_range load
returns c w e₁ e₂ e₃ e₄ e₅ e₆ e₇ e₈ e₉ e₁₀ e₁₁ =
    let a = c.args.lent in
    rw (
      e₁,
      e₂,
      e₃,
      e₄,
      e₅,
      e₆,
      e₇,
      e₈,
      e₉,
      e₁₀,
      e₁₁,
      all_places (snapshot_at a.snapshots.now) snapshot_in_range _ (YieldsList-from_range 0 _ _ refl refl) c.all-a.ensures.ran (λ x b q k. search rules),
      all_places (schema_at a.schemas.now a.schema_names.now) schema_in_range _ (YieldsList-from_range 0 _ _ refl refl) c.all-b.ensures.ran (λ x b q k. search rules),
      all_places (table_at a.tables.now a.table_names.now) table_in_range _ (YieldsList-from_range 0 _ _ refl refl) c.all-c.ensures.ran (λ x b q k. search rules),
      all_places (column_at a.columns.now a.column_names.now) column_in_range _ (YieldsList-from_range 0 _ _ refl refl) c.all-d.ensures.ran (λ x b q k. search rules),
      all_places (data_file_at a.data_files.now) data_file_in_range _ (YieldsList-from_range 0 _ _ refl refl) c.all-e.ensures.ran (λ x b q k. search rules),
      all_places (delete_file_at a.delete_files.now w.positions) delete_file_in_range _ (YieldsList-from_range 0 _ _ refl refl) c.all-f.ensures.ran (λ x b q k. search rules),
      all_places (statistics_at a.statistics.now) statistics_in_range _ (YieldsList-from_range 0 _ _ refl refl) c.all-g.ensures.ran (λ x b q k. search rules),
      c.scheduled_in_range-h.ensures,
    )
