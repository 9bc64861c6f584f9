-- `write_file_path` meets its contract: the UUID is that of the record which the lookup leaves in the area.
use Rattle.diary_listing.proofs.Lines.{path_written}
use Rattle.diary_listing.proofs.write_file_path.Goals as goal

pub copy_file-requires : goal.copy_file-requires
copy_file-requires c = c.requires.0

pub write_path-requires : goal.write_path-requires
write_path-requires c = c.requires.1

pub returns : goal.returns
returns c l =
    path_written _ _ _ (c.copy_file.ensures l) c.write_path.ensures
