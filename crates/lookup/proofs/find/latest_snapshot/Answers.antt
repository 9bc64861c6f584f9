-- `latest_snapshot` meets its contract: the last of n records is the one before the place n.
use mathlib.Core.Path.{sym, ap, ◌∙◌}
use Rattle.layout.specs.Catalog.{snapshot_of}
use Rattle.layout.specs.Words.{snapshot_at}
use Rattle.lists.proofs.Places.{last_at}
use Rattle.ducklake.specs.Liveness.{no_snapshot}
use Rattle.lookup.proofs.find.latest_snapshot.Goals as goal

pub returns : goal.returns
returns c =
    ap snapshot_of c.snapshot_at.ensures ∙ sym (last_at (snapshot_at c.args.snapshots.now) no_snapshot c.args.n c.requires.1)
