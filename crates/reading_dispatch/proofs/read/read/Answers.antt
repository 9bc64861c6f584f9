-- `read` meets its contract: each kind is a reading of its own.
use native.Mathlib.Omega.{arith}
use mathlib.Core.Path.{◌∙◌}
use mir.Syntax.{w64}
use mir.Facts.{to_z-of_z}
use Rattle.listings.proofs.Lent.{schemas_lent_lem, tables_lent_lem, columns_lent_lem, named_lent, snapshots_lent_lem}
use Rattle.scans.proofs.Lent.{files_lent as table_files_lent, filtered_lent}
use Rattle.row_lists.proofs.Lent.{rows_lent}
use Rattle.file_lookup.proofs.Places.{files_lent as lookup_lent}
use Rattle.call_lists.proofs.KindLaws.{promise_read, schemas_is, tables-is, columns_is, named_is, files_is, filtered_is, by_time_is, lookup_is, rows_is}
use Rattle.reading_dispatch.proofs.read.read.Goals as goal

pub returns-in-200 : goal.returns-in-200
returns-in-200 c =
    promise_read _ _ _ (schemas_is c.args.names.now c.args.call c.in-200.is) (c.list_schemas.ensures (schemas_lent_lem _ _ c.requires.checked_value))

pub returns-in-201 : goal.returns-in-201
returns-in-201 c =
    promise_read _ _ _ (tables-is c.args.names.now c.args.call c.in-201.is) (c.list_tables.ensures (tables_lent_lem _ _ c.requires.checked_value))

pub returns-in-202 : goal.returns-in-202
returns-in-202 c =
    promise_read _ _ _ (columns_is c.args.names.now c.args.call c.in-202.is) (c.list_columns.ensures (columns_lent_lem _ _ c.requires.checked_value))

pub returns-in-203 : goal.returns-in-203
returns-in-203 c =
    promise_read _ _ _ (named_is c.args.names.now c.args.call c.in-203.is c.part_of-name.ensures) (c.find_table_by_name.ensures (named_lent _ _ c.requires.checked_value))

pub returns-in-204 : goal.returns-in-204
returns-in-204 c =
    promise_read _ _ _ (files_is c.args.names.now c.args.call c.in-204.is) (c.list_table_files.ensures (table_files_lent _ _ c.requires.checked_value))

pub returns-in-205 : goal.returns-in-205
returns-in-205 c =
    promise_read _ _ _ (filtered_is c.args.names.now c.args.call c.in-205.is (to_z-of_z {w = w64} {z = c.to_signed-scalar.result} (record { sfits = c.to_signed-scalar.type_inv }) ∙ c.to_signed-scalar.ensures)) (c.list_filtered_files.ensures (filtered_lent _ _ c.requires.checked_value))

pub returns-in-207 : goal.returns-in-207
returns-in-207 c =
    promise_read _ _ _ (by_time_is c.args.names.now c.args.call c.in-207.is) (c.find_snapshot_by_time.ensures (snapshots_lent_lem _ _ c.requires.checked_value))

pub returns-in-208 : goal.returns-in-208
returns-in-208 c =
    promise_read _ _ _ (lookup_is c.args.names.now c.args.call c.in-208.is) (c.copy_file.ensures (lookup_lent _ _ c.requires.checked_value))

pub returns-in_default : goal.returns-in_default
returns-in_default c =
    promise_read _ _ _ (rows_is c.args.names.now c.args.call (omega arith) (omega arith) (omega arith) (omega arith) (omega arith) (omega arith) (omega arith) (omega arith))
    (c.list_rows.ensures (rows_lent _ _ c.requires.checked_value))
