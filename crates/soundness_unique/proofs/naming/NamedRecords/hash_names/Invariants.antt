-- `hash_names` meets its contract: each hash is written in its turn.
use mathlib.Core.Path.{◌≡◌}
use lib.ListN.{length}
use Rattle.lists.proofs.Loops.{filled}
use Rattle.soundness_unique.specs.Records.{hash_of_name}
use Rattle.soundness_unique.proofs.naming.NamedRecords.hash_names.Given as goal

abbrev pub invariant-loop-p : goal.invariant-loop-p
invariant-loop-p l =
    (length l.hashes ≡ length l.initial.hashes)
    × (filled (hash_of_name l.self) (length l.initial.hashes) l.initial.hashes 0 ≡ filled (hash_of_name l.self) (length l.initial.hashes) l.hashes l.p)
