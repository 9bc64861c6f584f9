-- `put_name_keys` meets its contract: at every turn the places so far have their keys.
use mathlib.Core.Path.{◌≡◌}
use lib.ListN.{length, take}
use Rattle.soundness_unique.specs.Naming.{name_key_size, KeysPut}
use Rattle.soundness_unique.specs.Records.{key_of_name}
use Rattle.soundness_unique.proofs.naming.NamedRecords.put_name_keys.Given as goal

abbrev pub invariant-loop-i : goal.invariant-loop-i
invariant-loop-i l =
    (length l.keys ≡ length l.initial.keys) × KeysPut (key_of_name l.self) name_key_size (take l.i-index l.w) l.keys
