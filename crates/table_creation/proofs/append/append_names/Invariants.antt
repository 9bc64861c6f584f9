-- `append_names` meets its contract: each byte of the name places is written in turn.
use Prim.Native.Nat.{◌+◌, ◌*◌}
use mathlib.Core.Path.{◌≡◌}
use lib.ListN.{length, drop}
use Rattle.lists.specs.Runs.{overwrite}
use Rattle.layout.specs.Names.{name_size}
use Rattle.table_creation.proofs.append.append_names.Given as goal

-- the bytes from k on are still to be written
abbrev pub invariant-loop-k : goal.invariant-loop-k
invariant-loop-k l =
    (length l.names ≡ length l.initial.names) × (overwrite l.initial.names (name_size * l.n) l.new_names ≡ overwrite l.names (name_size * l.n + l.k) (drop l.k l.new_names))
