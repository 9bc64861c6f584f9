-- `uuid_is_nowhere` meets its contract: the loop goes on while no record has the two words.
use Prim.Native.Nat.{◌+◌}
use mathlib.Core.Path.{◌≡◌}
use Rattle.lists.specs.Lists.{all}
use Rattle.lists.specs.Runs.{from, pair_at, pairs}
use Rattle.commits.proofs.Uuids.{differ}
use Rattle.commits.proofs.uuid.uuid_is_nowhere.Given as goal

abbrev pub invariant-loop-i : goal.invariant-loop-i
invariant-loop-i l =
    all (differ l.uuid) (pairs l.size l.word (l.word + 1) l.w l.n) ≡ all (differ l.uuid) (from (pair_at l.size l.word (l.word + 1) l.w) l.i l.n)
