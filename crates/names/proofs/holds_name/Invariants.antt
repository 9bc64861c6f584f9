-- `holds_name` meets its contract: the place and the padded name are compared byte by byte.
use mathlib.Core.Path.{◌≡◌}
use lib.Dec.{eqb}
use lib.ListN.{drop}
use Rattle.lists.specs.Lists.{agree}
use Rattle.layout.specs.Names.{name_at, padded}
use Rattle.names.proofs.holds_name.Given as goal

-- equal so far: the bytes from k on decide
abbrev pub invariant-loop-k : goal.invariant-loop-k
invariant-loop-k l = agree eqb (name_at l.names l.i) (padded l.name) ≡ agree eqb (drop l.k (name_at l.names l.i)) (drop l.k (padded l.name))
