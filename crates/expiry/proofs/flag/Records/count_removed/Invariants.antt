-- `count_removed` meets its contract: each turn counts the record at its place, as the definition does.
use Prim.Native.Nat.{ℕ, ◌≤◌}
use mathlib.Core.Path.{◌≡◌}
use mathlib.Core.Bool.{Bool, not}
use mathlib.Core.List.{List}
use lib.ListN.{length}
use Rattle.lists.specs.Lists.{filter, range}
use Rattle.lists.proofs.Loops.{counted}
use Rattle.expiry.specs.declared.flag.Records.{Records}
use Rattle.expiry.specs.Remaining.{stays}
use Rattle.expiry.proofs.flag.Records.count_removed.Given as goal

abbrev pub goes : Records → List ℕ → ℕ → Bool
goes r ids j = not (stays r.size r.life r.words.now ids j)

abbrev pub invariant-loop-i : goal.invariant-loop-i
invariant-loop-i l = (l.k ≤ l.i) × (length (filter (goes l.self l.left.ids.now) (range 0 l.self.n)) ≡ counted (λ j. j) (goes l.self l.left.ids.now) l.self.n l.k l.i)
