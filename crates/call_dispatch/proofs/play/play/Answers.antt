-- `play` meets its contract: a reading, or an operation for each kind, with the arguments that its spans name.
use native.Mathlib.Omega.{arith}
use mathlib.Core.Path.{sym, ap, ◌∙◌}
use Rattle.call_lists.proofs.Parts.{words_fit, name_fits, names_fit}
use Rattle.call_lists.proofs.KindLaws.{promise_of, create_schema_is, create_table_is, drop_schema_is, drop_table_is, insert_is, delete_is, expire_is, fresh-is, cleanup_is, reading_is}
use Rattle.schema_creation.proofs.Lent.{create_schema_lent}
use Rattle.table_creation.proofs.Lent.{create_table_lent}
use Rattle.drops.proofs.Lent.{drop_schema_lent, drop_table_lent}
use Rattle.row_insertion.proofs.Lent.{insert_lent}
use Rattle.row_deletion.proofs.Lent.{delete_lent}
use Rattle.catalog_fresh.proofs.Lent.{fresh_lent}
use Rattle.cleanup.proofs.Lent.{cleanup_lent}
use Rattle.call_dispatch.proofs.play.play.Goals as goal

pub read-requires : goal.read-requires
read-requires c =
    record { checked_value = c.requires.checked_value; length_in_bounds = name_fits _ _ c.args.call c.requires.call_value }

pub returns-then-is_reading : goal.returns-then-is_reading
returns-then-is_reading c =
    promise_of _ _ _ (reading_is c.args.lists.now c.args.names.now c.args.call (sym c.is_reading.ensures ∙ c.if-is_reading.true)) c.read.ensures

pub part_of-name-requires : goal.part_of-name-requires
part_of-name-requires c = name_fits _ _ c.args.call c.requires.call_value

pub create_schema-requires : goal.create_schema-requires
create_schema-requires c =
    create_schema_lent _ _ c.requires.checked_value

pub part_of-name-requires-in-2 : goal.part_of-name-requires-in-2
part_of-name-requires-in-2 c = name_fits _ _ c.args.call c.requires.call_value

pub part_of-new_columns-requires : goal.part_of-new_columns-requires
part_of-new_columns-requires c = words_fit _ _ c.args.call c.requires.call_value

pub part_of-new_column_names-requires : goal.part_of-new_column_names-requires
part_of-new_column_names-requires c = names_fit _ _ c.args.call c.requires.call_value

pub create_table-requires : goal.create_table-requires
create_table-requires c =
    create_table_lent _ _ c.requires.checked_value

pub drop_schema-requires : goal.drop_schema-requires
drop_schema-requires c =
    drop_schema_lent _ _ c.requires.checked_value

pub drop_table-requires : goal.drop_table-requires
drop_table-requires c =
    drop_table_lent _ _ c.requires.checked_value

pub part_of-new_statistics-requires : goal.part_of-new_statistics-requires
part_of-new_statistics-requires c = words_fit _ _ c.args.call c.requires.call_value

pub insert_rows-requires : goal.insert_rows-requires
insert_rows-requires c =
    insert_lent _ _ c.requires.checked_value

pub part_of-new_positions-requires : goal.part_of-new_positions-requires
part_of-new_positions-requires c = words_fit _ _ c.args.call c.requires.call_value

pub delete_rows-requires : goal.delete_rows-requires
delete_rows-requires c =
    delete_lent _ _ c.requires.checked_value

pub part_of-ids-requires : goal.part_of-ids-requires
part_of-ids-requires c = words_fit _ _ c.args.call c.requires.call_value

pub expire_snapshots-requires : goal.expire_snapshots-requires
expire_snapshots-requires c =
    c.requires.checked_value

pub start-requires : goal.start-requires
start-requires c =
    fresh_lent _ (ap (λ k. k.room) c.requires.checked_value)

pub clean_up-requires : goal.clean_up-requires
clean_up-requires c =
    cleanup_lent _ _ c.requires.checked_value

pub returns-in-1 : goal.returns-in-1
returns-in-1 c =
    promise_of _ _ _ (create_schema_is _ _ c.args.call c.in-1.is c.part_of-name.ensures) (c.create_schema.ensures (create_schema_lent _ _ c.requires.checked_value) _)

pub returns-in-2 : goal.returns-in-2
returns-in-2 c =
    promise_of _ _ _ (create_table_is _ _ c.args.call c.in-2.is c.part_of-name-in-2.ensures c.part_of-new_columns.ensures c.part_of-new_column_names.ensures) (c.create_table.ensures (create_table_lent _ _ c.requires.checked_value) _)

pub returns-in-6 : goal.returns-in-6
returns-in-6 c =
    promise_of _ _ _ (drop_schema_is _ _ c.args.call c.in-6.is) (c.drop_schema.ensures (drop_schema_lent _ _ c.requires.checked_value) _)

pub returns-in-7 : goal.returns-in-7
returns-in-7 c =
    promise_of _ _ _ (drop_table_is _ _ c.args.call c.in-7.is) (c.drop_table.ensures (drop_table_lent _ _ c.requires.checked_value) _)

pub returns-in-3 : goal.returns-in-3
returns-in-3 c =
    promise_of _ _ _ (insert_is _ c.args.names.now c.args.call c.in-3.is c.part_of-new_statistics.ensures) (c.insert_rows.ensures (insert_lent _ _ c.requires.checked_value) _)

pub returns-in-4 : goal.returns-in-4
returns-in-4 c =
    promise_of _ _ _ (delete_is _ c.args.names.now c.args.call c.in-4.is c.part_of-new_positions.ensures) (c.delete_rows.ensures (delete_lent _ _ c.requires.checked_value) _)

pub returns-in-100 : goal.returns-in-100
returns-in-100 c =
    promise_of _ _ _ (expire_is _ c.args.names.now c.args.call c.in-100.is c.part_of-ids.ensures) (c.expire_snapshots.ensures _)

pub returns-in-102 : goal.returns-in-102
returns-in-102 c =
    promise_of _ _ _ (fresh-is c.args.lists.now c.args.names.now c.args.call c.in-102.is) (c.start.ensures (fresh_lent _ (ap (λ k. k.room) c.requires.checked_value)) _)

pub returns-in_default : goal.returns-in_default
returns-in_default c =
    promise_of _ _ _ (cleanup_is c.args.lists.now c.args.names.now c.args.call
    (sym c.is_reading.ensures ∙ c.if-is_reading.false)
    (omega arith) (omega arith) (omega arith) (omega arith) (omega arith) (omega arith) (omega arith) (omega arith))
    (c.clean_up.ensures (cleanup_lent _ _ c.requires.checked_value))
