-- The columns of a table stand together: one of that id that is live is among them or nowhere.
use mathlib.Core.Path.{refl, sym, ◌∙◌}
use native.Mathlib.Omega.{arith}
use Rattle.layout.specs.Words.{column_at}
use Rattle.scans.proofs.Columns.{is_column, column_block, column_tested}
use Rattle.scans.proofs.Statistics.{any_here, any_past, any_over}
use Rattle.scans.proofs.filtered.column_is_live.Goals as goal

pub loop-i-init : goal.loop-i-init
loop-i-init c names = refl

pub column_id-id-requires : goal.column_id-id-requires
column_id-id-requires c = omega (arith, c.columns_of-block.ensures.most, c.requires.lent, c.loop-i-test.true)

pub life_at-l-requires : goal.life_at-l-requires
life_at-l-requires c = (omega (arith, c.columns_of-block.ensures.most, c.requires.lent, c.loop-i-test.true), omega arith)

pub returns-then-id-column : goal.returns-then-id-column
returns-then-id-column c names =
    let h = c.loop-i in
    let a = c.args in
    sym (column_block a.columns.now names a.n a.s.0 a.table.0 a.column c.columns_of-block.ensures
    ∙ (h.invariant names
    ∙ any_here (column_at a.columns.now names) (is_column a.column a.s.0) h.i _ c.loop-i-test.true
    (column_tested a.columns.now names h.i a.column a.s.0 c.column_id-id.ensures c.life_at-l.ensures c.is_live-live.ensures c.if-id-column.true)))

pub loop-i-preserved : goal.loop-i-preserved
loop-i-preserved c names =
    let h = c.loop-i in
    let a = c.args in
    h.invariant names
    ∙ any_past (column_at a.columns.now names) (is_column a.column a.s.0) h.i _ c.loop-i-test.true
    (column_tested a.columns.now names h.i a.column a.s.0 c.column_id-id.ensures c.life_at-l.ensures c.is_live-live.ensures c.if-id-column.false)

pub returns : goal.returns
returns c names =
    let a = c.args in
    sym (column_block a.columns.now names a.n a.s.0 a.table.0 a.column c.columns_of-block.ensures
    ∙ (c.loop-i.invariant names ∙ any_over (column_at a.columns.now names) (is_column a.column a.s.0) _ _ c.loop-i-test.false))
