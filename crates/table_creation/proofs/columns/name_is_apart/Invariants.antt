-- `name_is_apart` meets its contract: the loop goes on while no later name clashes.
use Prim.Native.Nat.{ℕ, ◌+◌}
use mathlib.Core.Path.{◌≡◌}
use mathlib.Core.Bool.{Bool, not}
use mathlib.Core.List.{List}
use Rattle.lists.specs.Lists.{all}
use Rattle.lists.specs.Runs.{from}
use Rattle.layout.specs.Names.{name_at}
use Rattle.ducklake.specs.Arguments.{clashes, column_argument}
use Rattle.table_creation.proofs.columns.name_is_apart.Given as goal

-- no name from the place j on clashes with that at the place i
abbrev pub apart : List ℕ → ℕ → ℕ → List ℕ → ℕ → ℕ → Bool
apart names i table words j n = all (λ c. not (clashes (name_at names i) c.name)) (from (column_argument table words names) j n)

abbrev pub invariant-loop-j : goal.invariant-loop-j
invariant-loop-j l = ((table : ℕ) (words : List ℕ) → apart l.names l.i table words (l.i + 1) l.n ≡ apart l.names l.i table words l.j l.n)
