-- `mark_data_file` meets its contract: ids ascend, so no other data file has the id that was found.
use native.Mathlib.Omega.{arith}
use Rattle.chaining.proofs.Marks.{found_id, mark_found, mark_nowhere}
use Rattle.chaining.proofs.chained.mark_data_file.Goals as goal

pub set_flag-requires : goal.set_flag-requires
set_flag-requires c =
    omega (arith, c.requires.1, (found_id _ _ _ c.find_data_file-found.ensures c.in-Some.is).0)

pub returns-in-Some : goal.returns-in-Some
returns-in-Some c =
    mark_found _ _ _ c.find_data_file-found.ensures c.requires.0.ascending _ c.in-Some.is c.requires.1 c.set_flag.ensures

pub returns-in_default : goal.returns-in_default
returns-in_default c =
    mark_nowhere _ _ _ c.find_data_file-found.ensures c.in_default.is _
