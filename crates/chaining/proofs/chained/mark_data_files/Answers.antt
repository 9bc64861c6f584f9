-- `mark_data_files` meets its contract: each turn sets the flag of its delete file's data file, if the delete file is open.
use mathlib.Core.Path.{sym, ap, ◌∙◌}
use mathlib.Core.Bool.{◌||◌}
use Rattle.lists.specs.Pieces.{flagged}
use Rattle.lists.proofs.Loops.{from_all}
use Rattle.layout.specs.Words.{data_file_at, delete_file_at}
use Rattle.chaining.specs.Chained.{has_open_deletes}
use Rattle.chaining.proofs.Marks.{or-false, marks_open, marks_ended, marks_end}
use Rattle.chaining.proofs.chained.mark_data_files.Goals.{then-eq, else-eq}
use Rattle.chaining.proofs.chained.mark_data_files.Goals as goal

pub loop-i-init : goal.loop-i-init
loop-i-init c =
    let a = c.args in
    λ p j h. ap (λ es. flagged a.flags.now j || has_open_deletes es (data_file_at a.data_files.now j).id) (from_all (delete_file_at a.delete_files.now p) a.m)

pub loop-i-preserved : goal.loop-i-preserved
loop-i-preserved c p j h =
    let a = c.args in
    let l = c.loop-i in
    let id = (data_file_at a.data_files.now j).id in
    elim c.if-eq.branch [
      | then-eq w ↦ rw w.flags-is (l.invariant p j h
          ∙ marks_open a.delete_files.now p a.m l.i id c.loop-i-test.true c.delete_file_data_file-file.ensures c.delete_file_end-end.ensures (sym c.eq.ensures ∙ w.if-eq.true) (flagged l.flags j) (w.mark_data_file.ensures.set j h))
      | else-eq w ↦ rw w.flags-is (l.invariant p j h
          ∙ ap (◌||◌ (flagged l.flags j)) (marks_ended a.delete_files.now p a.m l.i id c.loop-i-test.true c.delete_file_end-end.ensures (sym c.eq.ensures ∙ w.if-eq.false)))
    ]

pub returns : goal.returns
returns c p =
    let a = c.args in
    record {
      set = λ j h. sym (c.loop-i.invariant p j h
          ∙ (ap (◌||◌ (flagged c.loop-i.flags j)) (marks_end a.delete_files.now p a.m c.loop-i.i (data_file_at a.data_files.now j).id c.loop-i-test.false) ∙ sym (or-false (flagged c.loop-i.flags j))));
    }
