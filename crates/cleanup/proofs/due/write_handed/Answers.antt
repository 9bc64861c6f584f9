-- `write_handed` meets its contract: the three words are written one after another.
use native.Mathlib.Numerals.{towards_suc}
use native.Mathlib.Omega.{arith}
use lib.ListN.{length-set}
use Rattle.lists.proofs.Runs.{overwrite_sets}
use Rattle.layout.specs.Catalog.{scheduled_of}
use Rattle.ducklake.specs.Maintenance.{handed_words}
use Rattle.cleanup.proofs.due.write_handed.Goals as goal

pub bounds-area-k-2 : goal.bounds-area-k-2
bounds-area-k-2 c = simp length-set (omega arith)

pub bounds-area-k-3 : goal.bounds-area-k-3
bounds-area-k-3 c = simp length-set (omega arith)

pub returns : goal.returns
returns c = simp towards_suc (overwrite_sets c.args.area.now c.args.k (handed_words (scheduled_of c.args.r)) c.requires)
