-- `write_expiry` meets its contract: what stays is live at one of the ids that remain, so each run is that of the effect.
use borrow.Author.Rules.{rules}
use Rattle.snapshot_expiry.proofs.Effects.{list_expirable, definitions_lent, files_lent, expiry_written}
use Rattle.snapshot_expiry.proofs.expire.write_expiry.Goals as goal

pub unlisted-left-requires : goal.unlisted-left-requires
unlisted-left-requires c = (list_expirable _ _ _ _ c.requires, search rules)

pub expire_listed-n-requires : goal.expire_listed-n-requires
expire_listed-n-requires c = list_expirable _ _ _ _ c.requires

pub expire_definitions-d-requires : goal.expire_definitions-d-requires
expire_definitions-d-requires c = definitions_lent _ _ _ c.args.time c.requires

pub expire_files-f-requires : goal.expire_files-f-requires
expire_files-f-requires c = files_lent _ _ _ _ c.requires c.unlisted-left.ensures

pub shape_of-snapshots : goal.shape_of-snapshots
shape_of-snapshots c = c.expire_listed-n.auto.snapshots

pub shape_of-schemas : goal.shape_of-schemas
shape_of-schemas c = c.expire_definitions-d.auto.schemas

pub shape_of-schema_names : goal.shape_of-schema_names
shape_of-schema_names c = c.expire_definitions-d.auto.schema_names

pub shape_of-tables : goal.shape_of-tables
shape_of-tables c = c.expire_definitions-d.auto.tables

pub shape_of-table_names : goal.shape_of-table_names
shape_of-table_names c = c.expire_definitions-d.auto.table_names

pub shape_of-columns : goal.shape_of-columns
shape_of-columns c = c.expire_definitions-d.auto.columns

pub shape_of-column_names : goal.shape_of-column_names
shape_of-column_names c = c.expire_definitions-d.auto.column_names

pub shape_of-data_files : goal.shape_of-data_files
shape_of-data_files c = c.expire_files-f.auto.data_files

pub shape_of-delete_files : goal.shape_of-delete_files
shape_of-delete_files c = c.expire_files-f.auto.delete_files

pub shape_of-positions : goal.shape_of-positions
shape_of-positions c = c.expire_files-f.auto.positions

pub shape_of-statistics : goal.shape_of-statistics
shape_of-statistics c = c.expire_files-f.auto.statistics

pub shape_of-scheduled : goal.shape_of-scheduled
shape_of-scheduled c = c.expire_files-f.auto.scheduled

pub returns : goal.returns
returns c =
    let e = expiry_written _ _ _ _ c.requires c.unlisted-left.ensures _ c.expire_listed-n.ensures c.expire_definitions-d.ensures c.expire_files-f.ensures in
    record { after_effect = e.counts; stored = e.words }
