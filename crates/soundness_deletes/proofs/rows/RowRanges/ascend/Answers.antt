-- `ascend` meets its contract: each file is tested against the end noted for its table, which stands for all earlier files of it.
use Prim.Native.Nat.{ℕ, ◌<◌}
use mathlib.Core.Path.{◌≡◌, sym, ap, ◌∙◌}
use mathlib.Core.List.{List}
use native.Mathlib.Omega.{arith}
use lib.ListN.{length, length-replicate, replicate}
use Rattle.soundness_deletes.proofs.RowRanges.{in_range_at, slot, ascend_start, ascend_found, ascend_pass, ascend_fail, ascend_end}
use Rattle.soundness_deletes.proofs.rows.RowRanges.ascend.Goals as goal

-- a place among the tables is one among the notes
noted : (ends first : List ℕ) (n k : ℕ) → length ends ≡ length first → first ≡ replicate n 0 → k < n → k < length ends
noted _ _ n _ e z l = omega (arith, e, ap length z, length-replicate {A = ℕ} n 0, l)

pub loop-i-init : goal.loop-i-init
loop-i-init c = ascend_start c.args.self.checkable c.requires.0 c.requires.1

pub returns-in_default : goal.returns-in_default
returns-in_default c =
    absurd (ascend_found c.args.self.checkable c.requires.0 c.loop-i-test.true c.data_file_at-file.ensures c.find_table_near.ensures c.in_default.is)

pub bounds-ends-k : goal.bounds-ends-k
bounds-ends-k c =
    noted _ _ _ _ c.loop-i.auto.ends c.requires.1
    (slot c.args.self.checkable c.requires.0 c.loop-i-test.true c.data_file_at-file.ensures c.find_table_near.ensures c.in-Some.is)

pub offset_bounds-ends-k : goal.offset_bounds-ends-k
offset_bounds-ends-k c =
    let l = slot c.args.self.checkable c.requires.0 c.loop-i-test.true c.data_file_at-file.ensures c.find_table_near.ensures c.in-Some.is in
    omega (arith, noted _ _ _ _ c.loop-i.auto.ends c.requires.1 l)

pub returns-then-file-noted : goal.returns-then-file-noted
returns-then-file-noted c =
    sym (c.loop-i.invariant
    ∙ ascend_fail c.args.self.checkable c.requires.0 c.loop-i-test.true c.data_file_at-file.ensures c.find_table_near.ensures c.in-Some.is _ c.if-file-noted.true)

pub row_id_end-requires : goal.row_id_end-requires
row_id_end-requires c = in_range_at c.args.self.checkable c.loop-i-test.true c.data_file_at-file.ensures

pub loop-i-preserved : goal.loop-i-preserved
loop-i-preserved c =
    let p = c.args.self.checkable in
    let i = c.loop-i-test.true in
    let l = noted _ _ _ _ c.loop-i.auto.ends c.requires.1 (slot p c.requires.0 i c.data_file_at-file.ensures c.find_table_near.ensures c.in-Some.is) in
    c.loop-i.invariant
    ∙ ascend_pass p c.requires.0 i c.data_file_at-file.ensures c.find_table_near.ensures c.in-Some.is _ l c.row_id_end.ensures c.if-file-noted.false

pub returns : goal.returns
returns c = sym (c.loop-i.invariant ∙ ascend_end _ _ _ _ _ _ c.loop-i-test.false)
