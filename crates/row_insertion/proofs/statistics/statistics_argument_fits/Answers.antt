-- `statistics_argument_fits` meets its contract: each turn passes the next column, and with it, where it is live, the next statistics given.
use mathlib.Core.Path.{sym, ap, ◌∙◌}
use mathlib.Core.Bool.{not}
use native.Mathlib.Omega.{arith}
use Rattle.soundness_statistics.proofs.FileStatistics.{judged_skip, judged_short, judged_pass, judged_fail, judged_end}
use Rattle.row_insertion.proofs.Fitting.{fitting_start, ragged}
use Rattle.row_insertion.proofs.statistics.statistics_argument_fits.Goals.{then-wanted+else-given-x+else-not-ok, else-wanted}
use Rattle.row_insertion.proofs.statistics.statistics_argument_fits.Goals as goal

pub returns-then-words-given : goal.returns-then-words-given
returns-then-words-given c names = ragged _ _ _ _ c.given_count-given.ensures c.if-words-given.true

pub returns-then-given-x : goal.returns-then-given-x
returns-then-given-x c names =
    sym (fitting_start _ names _ _ _ _ _ _ c.given_count-given.ensures c.if-words-given.false c.columns_of-own.ensures
    ∙ (c.loop-c.invariant.1 names ∙ judged_short _ names _ _ _ _ _ _ _ c.loop-c-test.true c.column_at-column.ensures c.statistics_wanted-wanted.ensures c.if-wanted.true c.if-given-x.true))

pub returns-then-not-ok : goal.returns-then-not-ok
returns-then-not-ok c names =
    sym (fitting_start _ names _ _ _ _ _ _ c.given_count-given.ensures c.if-words-given.false c.columns_of-own.ensures
    ∙ (c.loop-c.invariant.1 names ∙ judged_fail _ names _ _ _ _ _ _ _ c.loop-c-test.true c.column_at-column.ensures c.statistics_wanted-wanted.ensures c.if-wanted.true c.if-given-x.false
    c.given_statistics-r.ensures c.statistics_fit-ok.ensures (ap not c.if-not-ok.true)))

pub returns : goal.returns
returns c names =
    sym (fitting_start _ names _ _ _ _ _ _ c.given_count-given.ensures c.if-words-given.false c.columns_of-own.ensures
    ∙ (c.loop-c.invariant.1 names ∙ judged_end _ names _ _ _ _ _ _ _ (omega arith) c.loop-c.invariant.0))

pub loop-c-preserved : goal.loop-c-preserved
loop-c-preserved c = elim c.if-wanted.branch [
  | then-wanted+else-given-x+else-not-ok w ↦ rw w.x-is (
    omega (arith, w.if-given-x.false),
    λ names. c.loop-c.invariant.1 names
        ∙ judged_pass _ names _ _ _ _ _ _ _ c.loop-c-test.true c.column_at-column.ensures c.statistics_wanted-wanted.ensures w.if-wanted.true w.if-given-x.false
        w.given_statistics-r.ensures w.statistics_fit-ok.ensures (ap not w.if-not-ok.false),
  )
  | else-wanted w ↦ rw w.x-is (
    c.loop-c.invariant.0,
    λ names. c.loop-c.invariant.1 names ∙ judged_skip _ names _ _ _ _ _ _ _ c.loop-c-test.true c.column_at-column.ensures c.statistics_wanted-wanted.ensures w.if-wanted.false,
  )
]
