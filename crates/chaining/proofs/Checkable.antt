-- What sound tables give the test of whether they are chained.
use mathlib.Core.Path.{◌≡◌}
use mathlib.Core.Bool.{true}
use Rattle.layout.specs.declared.outcome.Counts.{Counts}
use Rattle.layout.specs.Words.{Words}
use Rattle.ducklake.specs.Soundness.{sound}
use Rattle.call_laws.proofs.Ready.{Ready, ready}
use Rattle.lookup.proofs.Findable.{findable}
use Rattle.chaining.specs.Chained.{ChainCheckable}

pub ready_chain : {w : Words} {c : Counts} → Ready w c → ChainCheckable w.data_files w.delete_files c
ready_chain R = record { data_files = (findable R).data_files; delete_files = R.held.delete_files; few = R.held.data_files_most }

pub checkable : (w : Words) (c : Counts) → sound w c ≡ true → ChainCheckable w.data_files w.delete_files c
checkable w c h = ready_chain (ready w c h)
