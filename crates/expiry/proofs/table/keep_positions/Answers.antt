-- `keep_positions` meets its contract: each turn copies the positions of its delete file down, if it stays; the rest is cleared.
use Prim.Native.Nat.{◌+◌}
use mathlib.Core.Path.{refl, sym, ap, ◌∙◌}
use native.Mathlib.Omega.{arith}
use Rattle.lists.proofs.Runs.{overwrite_copied, overwrite_filled}
use Rattle.lists.proofs.Compaction.{next_start, piece_fits, end_fits, compacted_pass, compacted_fail, compacted_done}
use Rattle.layout.specs.Words.{positions_first, position_pieces}
use Rattle.expiry.proofs.table.keep_positions.Goals.{then-is_flagged, else-is_flagged}
use Rattle.expiry.proofs.table.keep_positions.Goals as goal

pub loop-i-init : goal.loop-i-init
loop-i-init c = (omega arith, sym (positions_first _), refl, refl)

pub overflow_add-end : goal.overflow_add-end
overflow_add-end c =
    omega (arith, c.delete_file_delete_count-count.ensures, piece_fits (position_pieces c.args.delete_files.now) c.loop-i.i _ _ c.loop-i.invariant.1 c.loop-i-test.true c.requires.1)

pub copy_within-requires-clause-in_bounds : goal.copy_within-requires-clause-in_bounds
copy_within-requires-clause-in_bounds c =
    omega (arith, c.delete_file_delete_count-count.ensures, piece_fits (position_pieces c.args.delete_files.now) c.loop-i.i _ _ c.loop-i.invariant.1 c.loop-i-test.true c.requires.1)

pub copy_within-requires-clause-dest_in_bounds : goal.copy_within-requires-clause-dest_in_bounds
copy_within-requires-clause-dest_in_bounds c =
    omega (arith, c.delete_file_delete_count-count.ensures, piece_fits (position_pieces c.args.delete_files.now) c.loop-i.i _ _ c.loop-i.invariant.1 c.loop-i-test.true c.requires.1)

pub overflow_add-k : goal.overflow_add-k
overflow_add-k c =
    omega (arith, c.delete_file_delete_count-count.ensures, piece_fits (position_pieces c.args.delete_files.now) c.loop-i.i _ _ c.loop-i.invariant.1 c.loop-i-test.true c.requires.1)

pub loop-i-preserved : goal.loop-i-preserved
loop-i-preserved c =
    let h = c.loop-i.invariant in
    let s = c.delete_file_delete_count-count.ensures in
    let next = ap (λ m. c.loop-i.at + m) s ∙ next_start (position_pieces _) c.loop-i.i h.1 in
    let fits = piece_fits (position_pieces c.args.delete_files.now) c.loop-i.i _ _ h.1 c.loop-i-test.true c.requires.1 in
    elim c.if-is_flagged.branch [
      | then-is_flagged w ↦ rw (w.positions-is, w.k-is) (
        omega arith,
        next,
        w.copy_within.ensures.len ∙ h.2,
        h.3 ∙ compacted_pass 0 (position_pieces _) _ _ _ _ _ _ h.1 s h.0 c.loop-i-test.true (omega arith) (sym c.is_flagged.ensures ∙ w.if-is_flagged.true)
            (overwrite_copied _ _ _ _ (omega (arith, fits, s, h.2)) w.copy_within.ensures.after),
      )
      | else-is_flagged w ↦ rw (w.positions-is, w.k-is) (
        omega arith,
        next,
        h.2,
        h.3 ∙ compacted_fail 0 (position_pieces _) _ _ _ _ _ c.loop-i-test.true (sym c.is_flagged.ensures ∙ w.if-is_flagged.false),
      )
    ]

pub returns : goal.returns
returns c =
    let h = c.loop-i.invariant in
    let fits = end_fits (position_pieces c.args.delete_files.now) c.loop-i.i _ _ h.1 (omega arith) c.requires.1 in
    compacted_done 0 (position_pieces _) _ _ _ c.loop-i.positions _ _ _ _ c.loop-i-test.false (omega arith) h.1 h.0 (omega arith) h.3
    (overwrite_filled c.loop-i.positions _ _ 0 h.0 (omega (arith, fits, h.2)) (c.fill.ensures.after (λ y e. e)))
