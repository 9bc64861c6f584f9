-- `positions_add_up` meets its contract: the sum so far is that of the delete files passed, and sums never fall.
use borrow.Author.Tests.{ne_eqb}
use Prim.Native.Nat.{ℕ, ◌+◌, ◌-◌, ◌≤◌, ◌<◌}
use mathlib.Core.Path.{◌≡◌, sym, ap, ap₂, ◌∙◌}
use mathlib.Core.Bool.{false}
use mathlib.Core.List.{List}
use native.Mathlib.Omega.{arith}
use native.Mathlib.Numerals.{add-one}
use lib.Dec.{eqb}
use Rattle.layout.specs.Words.{delete_count, positions_before, positions_first, positions_then}
use Rattle.layout.proofs.RoundTrip.{positions_grow}
use Rattle.soundness.proofs.positions.positions_add_up.Goals as goal

positions_next : (run : List ℕ) (i : ℕ) → positions_before run (i + 1) ≡ positions_before run i + delete_count run i
positions_next run i = ap (positions_before run) (add-one i) ∙ positions_then run i

-- a sum that grows past the total
past : (run : List ℕ) (i n : ℕ) {sum count total : ℕ} → sum ≡ positions_before run i → count ≡ delete_count run i → i < n → total - sum < count → sum ≤ total → eqb (positions_before run n) total ≡ false
past run i n e f h l m = ne_eqb _ _ (λ (q : positions_before run n ≡ _). omega (arith, positions_next run i, positions_grow run (i + 1) n (omega arith)))

pub loop-i-init : goal.loop-i-init
loop-i-init c = (sym (positions_first _), omega arith)

pub returns-then-total-sum : goal.returns-then-total-sum
returns-then-total-sum c =
    let s = c.loop-i in
    sym (past _ s.i _ s.invariant.0 c.delete_file_delete_count-count.ensures c.loop-i-test.true c.if-total-sum.true s.invariant.1)

pub loop-i-preserved : goal.loop-i-preserved
loop-i-preserved c =
    (ap₂ ◌+◌ c.loop-i.invariant.0 c.delete_file_delete_count-count.ensures ∙ sym (positions_next c.args.delete_files.now c.loop-i.i), omega (arith, c.if-total-sum.false))
