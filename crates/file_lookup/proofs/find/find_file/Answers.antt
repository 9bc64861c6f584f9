-- `find_file` keeps the promise: unsound tables are refused; else it is what was found.
use Rattle.refusals.proofs.Laws.{is_sound_lem}
use Rattle.readings.proofs.Found.{data_files_by_id_lem, delete_files_by_id_lem}
use Rattle.file_lookup.proofs.Places.{part_refused, part_found}
use Rattle.file_lookup.proofs.find.find_file.Goals as goal

pub returns-then-not-checked : goal.returns-then-not-checked
returns-then-not-checked c l =
    part_refused _ _ _ l.checked c.if-not-checked.true

pub find_record-requires : goal.find_record-requires
find_record-requires c =
    let l = c.requires in
    let h = is_sound_lem _ _ l.checked c.if-not-checked.false in
    record { data_files = data_files_by_id_lem _ _ h l.data_files; delete_files = delete_files_by_id_lem _ _ h l.delete_files }

pub returns : goal.returns
returns c l =
    part_found _ _ _ _ _ l.data_files l.delete_files c.find_record.result (is_sound_lem _ _ l.checked c.if-not-checked.false) c.find_record.ensures
