-- `hash_places` meets its contract: the hash of each place is written in its turn.
use Rattle.sorting.proofs.KeyOrder.{keyed_at_lem}
use Rattle.sorting.proofs.colliding.hash_places.Goals as goal

pub hash_at-requires : goal.hash_at-requires
hash_at-requires c =
    (keyed_at_lem _ _ _ _ c.requires.0.keyed c.loop-i-test.true, c.requires.1)
