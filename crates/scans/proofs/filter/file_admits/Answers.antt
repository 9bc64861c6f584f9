-- The statistics of a data file stand together: the record for the column is among them or nowhere.
use mathlib.Core.Path.{refl, sym, ◌∙◌}
use native.Mathlib.Omega.{arith}
use mir.Facts.{to_z-of_z}
use Rattle.scans.proofs.Statistics.{kept_block, any_here, any_past, any_over, admitted_is}
use Rattle.scans.proofs.filter.file_admits.Goals as goal

pub loop-i-init : goal.loop-i-init
loop-i-init c = refl

pub statistics_at-x-requires : goal.statistics_at-x-requires
statistics_at-x-requires c = omega (arith, c.statistics_near-block.ensures.most, c.requires.lent, c.loop-i-test.true)

pub returns-then-x-column : goal.returns-then-x-column
returns-then-x-column c f e =
    let h = c.loop-i in
    sym (kept_block _ _ _ (to_z-of_z c.ranges.scalar) f e c.statistics_near-block.ensures
    ∙ (h.invariant ∙ any_here _ _ _ _ c.loop-i-test.true (admitted_is c.args.statistics.now h.i _ _ c.statistics_at-x.ensures c.record_admits-admitted.ensures ∙ c.if-x-column.true)))

pub loop-i-preserved : goal.loop-i-preserved
loop-i-preserved c =
    let h = c.loop-i in
    h.invariant ∙ any_past _ _ _ _ c.loop-i-test.true (admitted_is c.args.statistics.now h.i _ _ c.statistics_at-x.ensures c.record_admits-admitted.ensures ∙ c.if-x-column.false)

pub returns : goal.returns
returns c f e =
    sym (kept_block _ _ _ (to_z-of_z c.ranges.scalar) f e c.statistics_near-block.ensures ∙ (c.loop-i.invariant ∙ any_over _ _ _ _ c.loop-i-test.false))
