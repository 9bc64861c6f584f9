-- `write_name` meets its contract: each byte of the padded name is written in turn.
use Prim.Native.Nat.{◌+◌, ◌*◌}
use mathlib.Core.Path.{◌≡◌}
use lib.ListN.{length, drop}
use Rattle.lists.specs.Runs.{overwrite}
use Rattle.layout.specs.Names.{name_size, padded}
use Rattle.names.proofs.write_name.Given as goal

-- the bytes from k on are still to be written
abbrev pub invariant-loop-k : goal.invariant-loop-k
invariant-loop-k l = (length l.names ≡ length l.initial.names) × (overwrite l.initial.names (name_size * l.i) (padded l.name) ≡ overwrite l.names (name_size * l.i + l.k) (drop l.k (padded l.name)))
