-- `positions_fit` meets its contract: where the positions ascend, all are below the row count if the last is.
use native.Mathlib.Omega.{arith}
use Rattle.row_deletion.proofs.Fits.{fit_none, fit_some}
use Rattle.row_deletion.proofs.positions.positions_fit.Goals as goal

pub returns-then-n-eq0 : goal.returns-then-n-eq0
returns-then-n-eq0 c = fit_none _ _ c.if-n-eq0.true

pub returns : goal.returns
returns c = fit_some _ _ (omega arith) c.words_ascend-ascend.ensures
