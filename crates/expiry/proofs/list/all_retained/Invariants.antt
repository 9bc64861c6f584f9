-- `all_retained` meets its contract: the loop tests each id, as the definition does.
use mathlib.Core.Path.{◌≡◌}
use lib.ListN.{length, get_or}
use Rattle.lists.specs.Lists.{all}
use Rattle.lists.specs.Runs.{from}
use Rattle.layout.specs.Words.{snapshots_in}
use Rattle.ducklake.specs.Liveness.{retained}
use Rattle.expiry.proofs.list.all_retained.Given as goal

abbrev pub invariant-loop-id : goal.invariant-loop-id
invariant-loop-id l =
    all (retained (snapshots_in l.snapshots l.n)) l.ids ≡ all (retained (snapshots_in l.snapshots l.n)) (from (λ j. get_or l.ids j 0) l.id-index (length l.ids))
