-- `catalog_find_file` keeps its promise: the tables are checked, and the rest is the reading's.
use mathlib.Core.Path.{refl, ◌∙◌}
use Rattle.file_lookup.proofs.Places.{files_lent}
use Rattle.catalog_readings.proofs.file.catalog_find_file.Goals as goal

pub find_file-requires : goal.find_file-requires
find_file-requires c = files_lent _ _ c.check-checked.ensures

pub returns-in-Ok : goal.returns-in-Ok
returns-in-Ok c =
    c.in-Ok.ensures (files_lent _ _ c.check-checked.ensures)

pub returns-in-Err : goal.returns-in-Err
returns-in-Err c =
    let l = c.in-Err.ensures (files_lent _ _ c.check-checked.ensures) in
    record { number = c.number.ensures ∙ l.0; part = rw l.1 refl }
