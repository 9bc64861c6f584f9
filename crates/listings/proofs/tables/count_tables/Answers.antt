-- The loop tests each table as the definition does, and counts those that pass.
use mathlib.Core.Path.{sym, ◌∙◌}
use native.Mathlib.Omega.{arith}
use Rattle.lists.proofs.Loops.{counted_start, counted_pass, counted_fail, counted_end}
use Rattle.ducklake.specs.Liveness.{tables_at}
use Rattle.listings.proofs.tables.count_tables.Goals as goal
use Rattle.listings.proofs.tables.count_tables.Goals.{then-is_in_schema, else-is_in_schema}

pub loop-i-init : goal.loop-i-init
unfolding tables_at
loop-i-init c = (omega arith, λ names. counted_start _ _ _)

pub loop-i-preserved : goal.loop-i-preserved
loop-i-preserved c =
    let h = c.loop-i.invariant in
    let t = c.loop-i-test.true in
    elim c.if-is_in_schema.branch [
      | then-is_in_schema w ↦ rw w.k-is (omega arith, λ names. h.1 names ∙ counted_pass _ _ _ _ _ t (sym (c.is_in_schema.ensures names) ∙ w.if-is_in_schema.true))
      | else-is_in_schema w ↦ rw w.k-is (omega arith, λ names. h.1 names ∙ counted_fail _ _ _ _ _ t (sym (c.is_in_schema.ensures names) ∙ w.if-is_in_schema.false))
    ]

pub returns : goal.returns
returns c names = sym (c.loop-i.invariant.1 names ∙ counted_end _ _ _ _ _ c.loop-i-test.false)
