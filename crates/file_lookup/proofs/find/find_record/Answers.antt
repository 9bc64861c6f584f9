-- The record is at the place that its id has, among the data files or else among the delete files.
use Prim.Native.Nat.{◌+◌, ◌*◌, ◌≤◌}
use mathlib.Core.Path.{refl}
use native.Mathlib.Omega.{arith}
use lib.ListN.{length}
use Rattle.lists.proofs.Places.{found_tells}
use Rattle.lists.proofs.Runs.{record_fits}
use Rattle.layout.specs.Fields.{data_file_size, delete_file_size}
use Rattle.file_lookup.proofs.Places.{found_data_file, found_delete_file, found_nowhere}
use Rattle.file_lookup.proofs.find.find_record.Goals as goal

pub find_data_file-found-requires : goal.find_data_file-found-requires
find_data_file-found-requires c = c.requires.data_files

pub overflow_mul-i : goal.overflow_mul-i
overflow_mul-i c =
    -- the record at the place found lies within its run
    let data_file_lent : data_file_size * c.in-Some.i + data_file_size ≤ length c.args.data_files.now =
    record_fits data_file_size (found_tells _ _ _ c.find_data_file-found.ensures c.in-Some.is).0 c.requires.data_files.lent in
    omega (arith, data_file_lent)

pub part_of-requires : goal.part_of-requires
part_of-requires c =
    -- the record at the place found lies within its run
    let data_file_lent : data_file_size * c.in-Some.i + data_file_size ≤ length c.args.data_files.now =
    record_fits data_file_size (found_tells _ _ _ c.find_data_file-found.ensures c.in-Some.is).0 c.requires.data_files.lent in
    data_file_lent

pub returns-in-Some : goal.returns-in-Some
returns-in-Some c =
    let a = c.args in
    let e = found_data_file a.data_files.now a.n a.delete_files.now a.m a.id.0 c.find_data_file-found.ensures c.in-Some.is in
    rw e (c.part_of.ensures, refl)

pub find_delete_file-found-requires : goal.find_delete_file-found-requires
find_delete_file-found-requires c =
    c.requires.delete_files

pub overflow_mul-i-in-Some-found : goal.overflow_mul-i-in-Some-found
overflow_mul-i-in-Some-found c =
    let delete_file_lent : delete_file_size * c.in-Some-found.i + delete_file_size ≤ length c.args.delete_files.now =
    record_fits delete_file_size (found_tells _ _ _ c.find_delete_file-found.ensures c.in-Some-found.is).0 c.requires.delete_files.lent in
    omega (arith, delete_file_lent)

pub part_of-requires-in-Some-found : goal.part_of-requires-in-Some-found
part_of-requires-in-Some-found c =
    let delete_file_lent : delete_file_size * c.in-Some-found.i + delete_file_size ≤ length c.args.delete_files.now =
    record_fits delete_file_size (found_tells _ _ _ c.find_delete_file-found.ensures c.in-Some-found.is).0 c.requires.delete_files.lent in
    delete_file_lent

pub returns-in-Some-found : goal.returns-in-Some-found
returns-in-Some-found c =
    let a = c.args in
    let e = found_delete_file a.data_files.now a.n a.delete_files.now a.m a.id.0 c.find_data_file-found.ensures c.find_delete_file-found.ensures c.in_default.is c.in-Some-found.is in
    rw e (c.part_of-in-Some-found.ensures, refl)

pub returns : goal.returns
returns c =
    let a = c.args in
    let e = found_nowhere a.data_files.now a.n a.delete_files.now a.m a.id.0 c.find_data_file-found.ensures c.find_delete_file-found.ensures c.in_default.is c.in_default-found.is in
    (refl, e)
