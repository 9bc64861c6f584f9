-- The loop looks for the first record that asks for nothing.
use Rattle.call_lists.proofs.Leading.{Looking}
use Rattle.call_lists.proofs.record.count_calls.Given as goal

abbrev pub invariant-loop-i : goal.invariant-loop-i
invariant-loop-i l = Looking l.w l.lists l.names l.n l.i
