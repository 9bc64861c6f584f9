-- `uuid_is_free` meets its contract: the three tables of files are looked through, each as the definition has it.
use Rattle.commits.proofs.Uuids.{free_is}
use Rattle.commits.proofs.uuid.uuid_is_free.Goals as goal

pub returns : goal.returns
returns c w p q r =
    free_is w _ _ p q r c.uuid_is_nowhere-a.ensures c.uuid_is_nowhere-b.ensures c.uuid_is_nowhere-c.ensures
