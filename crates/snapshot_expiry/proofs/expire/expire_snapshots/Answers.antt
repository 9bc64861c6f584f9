-- `expire_snapshots` keeps the promise: refused it leaves all as it was; accepted, what it writes is the effect.
use mathlib.Core.Path.{refl}
use Rattle.layout.proofs.Refusals.{not_accepted}
use Rattle.refusals.proofs.Laws.{checked_ready}
use Rattle.expiry.proofs.Expirable.{expiry_checked}
use Rattle.snapshot_expiry.proofs.Promised.{not_refused, expiry_refused, expiry_accepted}
use Rattle.snapshot_expiry.proofs.expire.expire_snapshots.Goals as goal

pub refuse_expiry-requires : goal.refuse_expiry-requires
refuse_expiry-requires c h =
    expiry_checked (checked_ready _ _ c.requires h)

pub returns-in-Err : goal.returns-in-Err
returns-in-Err c area =
    rw c.refused.ensures (expiry_refused _ _ _ _ c.requires c.in-Err.ensures area (not_accepted _))

pub write_expiry-after-requires : goal.write_expiry-after-requires
write_expiry-after-requires c = not_refused _ _ _ c.args.time c.requires c.in_default.ensures refl

pub shape_of-snapshots : goal.shape_of-snapshots
shape_of-snapshots c = c.write_expiry-after.auto.snapshots

pub shape_of-schemas : goal.shape_of-schemas
shape_of-schemas c = c.write_expiry-after.auto.schemas

pub shape_of-schema_names : goal.shape_of-schema_names
shape_of-schema_names c = c.write_expiry-after.auto.schema_names

pub shape_of-tables : goal.shape_of-tables
shape_of-tables c = c.write_expiry-after.auto.tables

pub shape_of-table_names : goal.shape_of-table_names
shape_of-table_names c = c.write_expiry-after.auto.table_names

pub shape_of-columns : goal.shape_of-columns
shape_of-columns c = c.write_expiry-after.auto.columns

pub shape_of-column_names : goal.shape_of-column_names
shape_of-column_names c = c.write_expiry-after.auto.column_names

pub shape_of-data_files : goal.shape_of-data_files
shape_of-data_files c = c.write_expiry-after.auto.data_files

pub shape_of-delete_files : goal.shape_of-delete_files
shape_of-delete_files c = c.write_expiry-after.auto.delete_files

pub shape_of-positions : goal.shape_of-positions
shape_of-positions c = c.write_expiry-after.auto.positions

pub shape_of-statistics : goal.shape_of-statistics
shape_of-statistics c = c.write_expiry-after.auto.statistics

pub shape_of-scheduled : goal.shape_of-scheduled
shape_of-scheduled c = c.write_expiry-after.auto.scheduled

pub returns : goal.returns
returns c area =
    let e = c.write_expiry-after.ensures in
    rw c.accepted.ensures (expiry_accepted _ _ _ _ c.requires c.in_default.ensures area refl (record { counts = e.after_effect; words = e.stored }))
