-- `find_live_delete_file` meets its contract: the loop tests each delete file as the definition does.
use Prim.Native.Nat.{ℕ}
use mathlib.Core.Path.{◌≡◌}
use mathlib.Core.Bool.{Bool, ◌&&◌}
use mathlib.Core.List.{List}
use lib.Dec.{eqb}
use Rattle.lists.specs.Lists.{place}
use Rattle.lists.specs.Runs.{from}
use Rattle.layout.specs.Catalog.{Versioned, DeleteFile}
use Rattle.layout.specs.Words.{delete_file_at, delete_files_in}
use Rattle.ducklake.specs.Liveness.{live}
use Rattle.lookup.proofs.deletion.find_live_delete_file.Given as goal

abbrev pub test : ℕ → ℕ → Versioned DeleteFile → Bool
test file s d = eqb d.body.data_file file && live s d

abbrev pub invariant-loop-i : goal.invariant-loop-i
invariant-loop-i l = ((positions : List ℕ) → place (test l.data_file.0 l.s.0) 0 (delete_files_in l.delete_files positions l.n) ≡ place (test l.data_file.0 l.s.0) l.i (from (delete_file_at l.delete_files positions) l.i l.n))
