-- `fill` meets its contract: each turn writes one place more.
use Rattle.std.proofs.Common.{◌≡◌, length, replicate}
use Rattle.lists.proofs.Loops.{filling}
use Rattle.runs.proofs.kept.fill.Given as goal

abbrev pub invariant-loop-i : goal.invariant-loop-i
invariant-loop-i g l = (length l.w ≡ length l.initial.w) × (replicate (length l.initial.w) l.x ≡ filling l.x l.w l.i)
