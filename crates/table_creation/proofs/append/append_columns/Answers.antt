-- `append_columns` meets its contract: the records are those of the new columns, and their names are the argument's name places.
use native.Mathlib.Omega.{arith}
use Rattle.table_creation.proofs.Appends.{columns_appended}
use Rattle.table_creation.proofs.Fits.{fit_whole, names_whole}
use Rattle.table_creation.proofs.append.append_columns.Goals as goal

pub append_names-requires : goal.append_names-requires
append_names-requires c =
    omega (arith, c.requires.named, names_whole _ _ (fit_whole _ _ _ c.requires.fit))

pub returns : goal.returns
returns c =
    columns_appended _ _ _ _ _ c.requires.fit c.column_count-k.ensures c.append_records.ensures c.append_names.ensures
