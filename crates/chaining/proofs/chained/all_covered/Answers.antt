-- `all_covered` meets its contract: the loop tests the data file of each delete file.
use mathlib.Core.Path.{sym, ap, ◌∙◌}
use Rattle.lists.proofs.Loops.{all_start, all_pass, all_fail, all_end}
use Rattle.chaining.proofs.chained.all_covered.Invariants.{test}
use Rattle.chaining.proofs.chained.all_covered.Goals as goal

pub loop-i-init : goal.loop-i-init
loop-i-init c = λ p q g. all_start _ _ _

pub returns-then-not-ok : goal.returns-then-not-ok
returns-then-not-ok c p q g =
    let a = c.args in
    sym (c.loop-i.invariant p q g ∙ all_fail _ _ _ _ c.loop-i-test.true (sym (c.is_covered-ok.ensures q g ∙ ap (λ x. test a.data_files.now a.n q x.0) c.delete_file_data_file-file.ensures) ∙ c.if-not-ok.true))

pub loop-i-preserved : goal.loop-i-preserved
loop-i-preserved c =
    let a = c.args in
    λ p q g. c.loop-i.invariant p q g ∙ all_pass _ _ _ _ c.loop-i-test.true (sym (c.is_covered-ok.ensures q g ∙ ap (λ x. test a.data_files.now a.n q x.0) c.delete_file_data_file-file.ensures) ∙ c.if-not-ok.false)

pub returns : goal.returns
returns c p q g = sym (c.loop-i.invariant p q g ∙ all_end _ _ _ _ c.loop-i-test.false)
