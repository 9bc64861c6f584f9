-- `append_statistics` meets its contract: each turn writes the next record behind those before it.
use mathlib.Core.Path.{◌∙◌}
use native.Mathlib.Omega.{arith}
use Rattle.row_insertion.proofs.Appended.{laid_start, laid_next, laid_end}
use Rattle.row_insertion.proofs.append.append_statistics.Goals as goal

pub loop-i-init : goal.loop-i-init
loop-i-init c = laid_start _ _ _ _ _ c.given_count-given.ensures

pub loop-i-preserved : goal.loop-i-preserved
loop-i-preserved c =
    c.loop-i.invariant
    ∙ laid_next _ _ _ _ _ _ (omega arith) (omega (arith, c.given_count-given.ensures, c.requires)) c.given_statistics-r.ensures c.write_statistics.ensures

pub returns : goal.returns
returns c = laid_end _ _ _ _ _ _ _ (omega arith) c.loop-i.invariant
