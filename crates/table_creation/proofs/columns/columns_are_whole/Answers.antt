-- `columns_are_whole` meets its contract: the lengths are held against a number of columns that is in its limit.
use Rattle.table_creation.proofs.Fits.{too_many, few_enough}
use Rattle.table_creation.proofs.columns.columns_are_whole.Goals as goal

pub returns-then-n-gt-COLUMN_LIMIT : goal.returns-then-n-gt-COLUMN_LIMIT
returns-then-n-gt-COLUMN_LIMIT c =
    too_many c.args.columns.now c.args.names.now c.column_count-n.ensures c.if-n-gt-COLUMN_LIMIT.true

pub returns : goal.returns
returns c =
    few_enough c.args.columns.now c.args.names.now c.column_count-n.ensures c.if-n-gt-COLUMN_LIMIT.false
