-- `data_file_of_id` meets its contract: the first data file of the id stands at the place that is found.
use mathlib.Core.Path.{ap, ◌∙◌}
use Rattle.lists.proofs.Runs.{record_fits}
use Rattle.lists.proofs.Places.{found_tells}
use Rattle.layout.specs.Fields.{data_file_size}
use Rattle.layout.specs.Catalog.{data_file_of}
use Rattle.row_deletion.proofs.Found.{data_file_is}
use Rattle.row_deletion.proofs.file.data_file_of_id.Goals as goal

pub data_file_at-requires : goal.data_file_at-requires
data_file_at-requires c =
    record_fits data_file_size (found_tells _ _ _ c.find_data_file-found.ensures c.in-Some.is).0 c.requires.lent

pub returns-in-Some : goal.returns-in-Some
returns-in-Some c =
    ap data_file_of c.data_file_at.ensures ∙ data_file_is _ _ _ c.find_data_file-found.ensures c.in-Some.is

pub returns-in-None : goal.returns-in-None
returns-in-None c = data_file_is _ _ _ c.find_data_file-found.ensures c.in-None.is
