-- The number is written where the data file was found.
use mathlib.Core.Path.{sym, ap, ◌∙◌}
use native.Mathlib.Omega.{arith}
use Rattle.lists.proofs.Places.{found_tells}
use Rattle.scans.specs.Deletions.{set_at}
use Rattle.scans.proofs.deletions.set_at_data_file.Goals as goal

pub offset_bounds-numbers-k : goal.offset_bounds-numbers-k
offset_bounds-numbers-k c = omega (arith, (found_tells _ _ _ c.find_data_file_near.ensures c.in-Some.is).0)

pub bounds-numbers-k : goal.bounds-numbers-k
bounds-numbers-k c = omega (arith, (found_tells _ _ _ c.find_data_file_near.ensures c.in-Some.is).0)

pub returns-in-Some : goal.returns-in-Some
returns-in-Some c =
    let a = c.args in
    ap (λ r. set_at r a.numbers.now a.x) (sym c.in-Some.is ∙ c.find_data_file_near.ensures)

pub returns-in_default : goal.returns-in_default
returns-in_default c =
    let a = c.args in
    ap (λ r. set_at r a.numbers.now a.x) (sym c.in_default.is ∙ c.find_data_file_near.ensures)
