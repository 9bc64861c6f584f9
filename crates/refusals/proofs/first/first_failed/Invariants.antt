-- `first_failed` meets its contract: the loop goes on while tests are passed.
use Prim.Native.Nat.{ℕ}
use mathlib.Core.Path.{◌≡◌}
use lib.ListN.{drop}
use Rattle.ducklake.specs.Refusals.{accepted, first}
use Rattle.refusals.specs.Numbered.{numbered_by}
use Rattle.refusals.proofs.first.first_failed.Given as goal

abbrev pub invariant-loop-passed : goal.invariant-loop-passed
invariant-loop-passed g l = (number : g.row.R.Denot → ℕ) → first (numbered_by number l.tests) accepted ≡ first (numbered_by number (drop l.passed-index l.tests)) accepted
