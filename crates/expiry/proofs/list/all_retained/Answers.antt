-- `all_retained` meets its contract: the loop tests each id, as the definition does.
use mathlib.Core.Path.{sym, ap, ◌∙◌}
use native.Mathlib.Omega.{arith}
use Rattle.lists.specs.Lists.{all}
use Rattle.lists.proofs.Loops.{all_start, all_pass, all_fail, all_end}
use Rattle.layout.specs.Words.{snapshots_in}
use Rattle.ducklake.specs.Liveness.{retained}
use Rattle.expiry.proofs.Listed.{words_of}
use Rattle.expiry.proofs.list.all_retained.Goals as goal

pub loop-id-init : goal.loop-id-init
loop-id-init c =
    let a = c.args in
    ap (all (retained (snapshots_in a.snapshots.now a.n))) (sym (words_of a.ids.now)) ∙ all_start _ _ _

pub returns : goal.returns
returns c = sym (c.loop-id.invariant ∙ all_end _ _ _ _ (omega arith))

pub returns-then-not-is_retained : goal.returns-then-not-is_retained
returns-then-not-is_retained c =
    sym (c.loop-id.invariant ∙ all_fail _ _ _ _ (omega arith) (sym c.is_retained.ensures ∙ c.if-not-is_retained.true))

pub loop-id-preserved : goal.loop-id-preserved
loop-id-preserved c =
    c.loop-id.invariant ∙ all_pass _ _ _ _ (omega arith) (sym c.is_retained.ensures ∙ c.if-not-is_retained.false)
