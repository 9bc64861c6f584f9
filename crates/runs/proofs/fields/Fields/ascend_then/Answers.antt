-- `ascend_then` meets its contract: the loop tests each record with the one before it, as the definition does.
use Rattle.std.proofs.Common.{◌≡◌, ℕ, sym, refl, ◌∙◌, arith}
use borrow.Author.Tests.{not-true, not-false}
use Rattle.lists.specs.Lists.{before}
use Rattle.lists.proofs.Loops.{chained_turn, chained_stop, chained_end}
use Rattle.runs.proofs.fields.Fields.ascend_then.Goals as goal

before_read : {a b d e a' b' d' e' : ℕ} → a ≡ a' → b ≡ b' → d ≡ d' → e ≡ e' → before (a', b') (d', e') ≡ before (a, b) (d, e)
before_read p q r s = rw (p, q, r, s) refl

pub returns-then-not-ok : goal.returns-then-not-ok
returns-then-not-ok c =
    sym (c.loop-i.invariant ∙ chained_stop _ _ _ _ (omega arith) c.loop-i-test.true
    (before_read c.get-a.ensures c.get-b.ensures c.get-c.ensures c.get-d.ensures ∙ not-true _ c.if-not-ok.true-raw))

pub loop-i-preserved : goal.loop-i-preserved
loop-i-preserved c =
    c.loop-i.invariant ∙ chained_turn _ _ _ _ (omega arith) c.loop-i-test.true
    (before_read c.get-a.ensures c.get-b.ensures c.get-c.ensures c.get-d.ensures ∙ not-false _ c.if-not-ok.false-raw)

pub returns : goal.returns
returns c = sym (c.loop-i.invariant ∙ chained_end _ _ _ _ (omega arith))
