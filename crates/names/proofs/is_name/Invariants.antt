-- `is_name` meets its contract: each byte is judged by itself and by the one before it.
use mathlib.Core.Path.{◌≡◌}
use mathlib.Core.Bool.{◌&&◌}
use lib.ListN.{drop}
use Rattle.layout.specs.Names.{name_at, is_name}
use Rattle.names.proofs.NameBytes.{rest_named}
use Rattle.names.proofs.is_name.Given as goal

-- the bytes from k on decide, with those so far
abbrev pub invariant-loop-k : goal.invariant-loop-k
invariant-loop-k l = is_name (name_at l.names l.i) ≡ (l.ok && rest_named l.before (drop l.k (name_at l.names l.i)))
