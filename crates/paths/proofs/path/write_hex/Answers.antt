-- `write_hex` meets its contract: the last digit is that of the remainder, and those before it are digits of the quotient.
use mathlib.Core.Path.{◌≡◌, sym, ◌∙◌}
use native.Mathlib.Omega.{arith}
use Rattle.lists.proofs.Runs.{overwrite_none}
use Rattle.paths.proofs.Digits.{digit_next}
use Rattle.paths.proofs.Lengths.{hex_length}
use Rattle.paths.proofs.path.write_hex.Goals as goal

pub loop-i-preserved : goal.loop-i-preserved
loop-i-preserved c =
    let l = c.loop-i in
    l.invariant ∙ digit_next l.text c.args.at l.i l.rest c.hex_digit.ensures c.loop-i-test.true (omega arith)

pub returns : goal.returns
returns c =
    let l = c.loop-i in
    let e : l.i ≡ 0 = omega arith in
    record {
      bytes = sym (l.invariant ∙ rw e (overwrite_none l.text c.args.at));
      end = omega (arith, hex_length c.args.n c.args.number);
    }
