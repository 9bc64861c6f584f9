-- The loop tests each table as the definition does.
use mathlib.Core.Path.{sym, ap₂, ◌∙◌}
use mathlib.Core.Bool.{Bool, ◌&&◌}
use Rattle.lists.proofs.Loops.{place-start, place_hit, place_miss, place_end}
use Rattle.listings.specs.Tests.{place_of_named}
use Rattle.listings.proofs.named.find_named_table.Goals as goal

pub loop-i-init : goal.loop-i-init
unfolding place_of_named
loop-i-init c = place-start _ _ _

pub returns-then-is_named-is_in_schema : goal.returns-then-is_named-is_in_schema
returns-then-is_named-is_in_schema c =
    let h = c.loop-i in
    sym (h.invariant ∙ place_hit _ _ _ _ c.loop-i-test.true (ap₂ {C = Bool} (λ a b. a && b) (sym c.is_named.ensures) (sym (c.is_in_schema.ensures _)) ∙ c.if-is_named-is_in_schema.true))

pub loop-i-preserved : goal.loop-i-preserved
loop-i-preserved c =
    let h = c.loop-i in
    h.invariant ∙ place_miss _ _ _ _ c.loop-i-test.true (ap₂ {C = Bool} (λ a b. a && b) (sym c.is_named.ensures) (sym (c.is_in_schema.ensures _)) ∙ c.if-is_named-is_in_schema.false)

pub returns : goal.returns
returns c = sym (c.loop-i.invariant ∙ place_end _ _ _ _ c.loop-i-test.false)
