-- The loop counts the data files that pass both tests.
use mathlib.Core.Path.{sym, ap, ◌∙◌}
use native.Mathlib.Omega.{arith}
use lib.ListN.{length}
use Rattle.lists.proofs.Loops.{counted_start, counted_pass, counted_fail, counted_end}
use Rattle.layout.specs.Words.{data_files_in, statistics_in}
use Rattle.scans.proofs.FileLists.{read_both}
use Rattle.scans.proofs.files.count_files.Goals as goal
use Rattle.scans.proofs.files.count_files.Goals.{then-is_read, else-is_read}

pub loop-i-init : goal.loop-i-init
loop-i-init c =
    let a = c.args in
    (omega arith, ap length (read_both a.filter (statistics_in a.statistics.now a.q) (data_files_in a.data_files.now a.n) a.s.0 a.table.0) ∙ counted_start _ _ _)

pub loop-i-preserved : goal.loop-i-preserved
loop-i-preserved c =
    let h = c.loop-i.invariant in
    let t = c.loop-i-test.true in
    elim c.if-is_read.branch [
      | then-is_read w ↦ rw w.k-is (omega arith, h.1 ∙ counted_pass _ _ _ _ _ t (sym c.is_read.ensures ∙ w.if-is_read.true))
      | else-is_read w ↦ rw w.k-is (omega arith, h.1 ∙ counted_fail _ _ _ _ _ t (sym c.is_read.ensures ∙ w.if-is_read.false))
    ]

pub returns : goal.returns
returns c = (omega arith, sym (c.loop-i.invariant.1 ∙ counted_end _ _ _ _ _ c.loop-i-test.false))
