-- The loop looks for the first record that asks for nothing.
use mathlib.Core.Path.{ap, ◌∙◌}
use Rattle.call_lists.specs.Calls.{is_asked}
use Rattle.call_lists.proofs.Leading.{looking_start, looking_next, looking_hit, looking_end}
use Rattle.call_lists.proofs.record.count_calls.Goals as goal

pub loop-i-init : goal.loop-i-init
loop-i-init c = looking_start _ _ _ _

pub returns-then-not-is_asked : goal.returns-then-not-is_asked
returns-then-not-is_asked c =
    looking_hit _ _ _ _ _ c.loop-i-test.true (c.is_asked.ensures ∙ ap (is_asked _ _ c.loop-i.i) c.call_at-call.ensures) c.if-not-is_asked.true c.loop-i.invariant

pub loop-i-preserved : goal.loop-i-preserved
loop-i-preserved c =
    looking_next _ _ _ _ _ c.loop-i-test.true (c.is_asked.ensures ∙ ap (is_asked _ _ c.loop-i.i) c.call_at-call.ensures) c.if-not-is_asked.false c.loop-i.invariant

pub returns : goal.returns
returns c = looking_end _ _ _ _ _ c.loop-i-test.false c.loop-i.invariant
