-- `write_lines` meets its contract: a turn writes the line of two words, and the lines of the words behind them are still to be written.
use Prim.Native.Nat.{◌+◌, ◌*◌, ◌<◌}
use mathlib.Core.Path.{◌≡◌, refl}
use native.Mathlib.Omega.{arith}
use lib.ListN.{length}
use Rattle.diary_listing.proofs.Lines.{piece_next, pieces_done, lines_end, lines_next, line_fits}
use Rattle.diary_listing.proofs.write_lines.Goals as goal

pub loop-k-init : goal.loop-k-init
loop-k-init c l = record { bytes = refl; end = refl }

pub write_line-end-requires : goal.write_line-end-requires
write_line-end-requires c =
    (c.requires.0, λ l. line_fits _ _ _ (2 * c.loop-k.k) (c.requires.1 l) (c.loop-k.invariant l) c.loop-k.auto.text (omega arith))

pub loop-k-preserved : goal.loop-k-preserved
loop-k-preserved c l =
    let k = c.loop-k.k in
    let two : 2 * k + 1 < length c.args.listed.now = omega arith in
    let next : 2 * k + 2 ≡ 2 * (k + 1) = omega arith in
    piece_next (c.loop-k.invariant l) (rw next at (lines_next l.words c.args.files.counts c.args.listed.now (2 * k) two))
    (line_fits _ _ _ (2 * k) (c.requires.1 l) (c.loop-k.invariant l) c.loop-k.auto.text two) (c.write_line-end.ensures l)

pub returns : goal.returns
returns c l = pieces_done (c.loop-k.invariant l) (lines_end _ _ _ (2 * c.loop-k.k) (omega arith))
