-- `file_statistics_sound` meets its contract: each turn passes the next column, and with it, where its statistics are wanted, the next record.
use Rattle.std.proofs.Common.{not, sym, ap, ◌∙◌, arith}
use Rattle.layout.specs.Catalog.{statistics_of}
use Rattle.soundness_statistics.proofs.FileStatistics.{judged_start, judged_skip, judged_short, judged_pass, judged_fail, judged_end}
use Rattle.soundness_statistics.proofs.statistics.file_statistics_sound.Goals as goal

pub loop-c-init : goal.loop-c-init
loop-c-init c = (c.requires.3.order, λ names. judged_start _ names _ _ _ _ c.requires.2 c.requires.3)

pub returns-then-given-x : goal.returns-then-given-x
returns-then-given-x c names =
    sym (c.loop-c.invariant.1 names
    ∙ judged_short _ names _ _ _ _ _ _ _ c.loop-c-test.true c.column_at-column.ensures c.statistics_wanted-wanted.ensures c.if-not-wanted.false c.if-given-x.true)

pub returns-then-not-ok : goal.returns-then-not-ok
returns-then-not-ok c names =
    sym (c.loop-c.invariant.1 names
    ∙ judged_fail _ names _ _ _ _ _ _ _ c.loop-c-test.true c.column_at-column.ensures c.statistics_wanted-wanted.ensures c.if-not-wanted.false c.if-given-x.false
    (ap statistics_of c.statistics_at-s.ensures) c.statistics_fit-ok.ensures (ap not c.if-not-ok.true))

pub loop-c-preserved-then-not-wanted : goal.loop-c-preserved-then-not-wanted
loop-c-preserved-then-not-wanted c =
    (c.loop-c.invariant.0, λ names. c.loop-c.invariant.1 names ∙ judged_skip _ names _ _ _ _ _ _ _ c.loop-c-test.true c.column_at-column.ensures c.statistics_wanted-wanted.ensures c.if-not-wanted.true)

pub loop-c-preserved : goal.loop-c-preserved
loop-c-preserved c = (
  omega arith,
  λ names. c.loop-c.invariant.1 names
      ∙ judged_pass _ names _ _ _ _ _ _ _ c.loop-c-test.true c.column_at-column.ensures c.statistics_wanted-wanted.ensures c.if-not-wanted.false c.if-given-x.false
      (ap statistics_of c.statistics_at-s.ensures) c.statistics_fit-ok.ensures (ap not c.if-not-ok.false),
)

pub returns : goal.returns
returns c names =
    sym (c.loop-c.invariant.1 names ∙ judged_end _ names _ _ _ _ _ _ _ c.loop-c-test.false c.loop-c.invariant.0)
