-- `positions_sound` meets its contract: the data file that was found is the only one of its id.
use mathlib.Core.Path.{sym}
use Rattle.lists.proofs.Places.{found_tells}
use Rattle.lists.proofs.Runs.{record_fits}
use Rattle.layout.specs.Fields.{data_file_size}
use Rattle.soundness_deletes.proofs.DeleteFiles.{unsound_empty, unsound_lost, sound_found}
use Rattle.soundness_deletes.proofs.deletes.positions_sound.Goals as goal

pub returns-then-own-eq0 : goal.returns-then-own-eq0
returns-then-own-eq0 c = sym (unsound_empty _ _ c.if-own-eq0.true)

pub data_file_record_count-rows-requires : goal.data_file_record_count-rows-requires
data_file_record_count-rows-requires c =
    record_fits data_file_size (found_tells _ _ _ c.find_data_file_near-found.ensures c.in-Some.is).0 c.requires.lent

pub returns-in-Some : goal.returns-in-Some
returns-in-Some c =
    sound_found _ _ c.args.d _ c.find_data_file_near-found.ensures c.requires c.in-Some.is c.data_file_record_count-rows.ensures c.if-own-eq0.false
    c.words_ascend-ascending.ensures

pub returns-in-None : goal.returns-in-None
returns-in-None c =
    sym (unsound_lost _ _ c.args.d _ c.find_data_file_near-found.ensures c.in-None.is)
