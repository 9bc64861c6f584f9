-- `deleted_part` meets its contract: the delete file that is found is the only one, and its positions follow those of the ones before it.
use native.Mathlib.Omega.{arith}
use Rattle.lists.proofs.Runs.{record_fits}
use Rattle.layout.specs.Fields.{delete_file_size}
use Rattle.layout.proofs.RoundTrip.{positions_end}
use Rattle.row_deletion.proofs.Parts.{found_within, part_there, part_nowhere}
use Rattle.row_deletion.proofs.deleted.deleted_part.Goals as goal

pub positions_before-start-requires : goal.positions_before-start-requires
positions_before-start-requires c =
    let a = c.args in
    let p = c.requires in
    let h = found_within a.delete_files.now a.n a.s.0 a.data_file.0 c.find_live_delete_file-found.ensures c.in-Some.is in
    record { lent = omega (arith, p.lent, h); within = omega (arith, p.within, positions_end a.delete_files.now _ _ h) }

pub delete_file_delete_count-count-requires : goal.delete_file_delete_count-count-requires
delete_file_delete_count-count-requires c =
    let a = c.args in
    record_fits delete_file_size (found_within a.delete_files.now a.n a.s.0 a.data_file.0 c.find_live_delete_file-found.ensures c.in-Some.is) c.requires.lent

pub returns-in-Some : goal.returns-in-Some
returns-in-Some c =
    part_there _ _ _ _ c.find_live_delete_file-found.ensures c.in-Some.is
    c.positions_before-start.ensures c.delete_file_delete_count-count.ensures

pub returns-in-None : goal.returns-in-None
returns-in-None c = part_nowhere _ _ _ _ c.find_live_delete_file-found.ensures c.in-None.is
