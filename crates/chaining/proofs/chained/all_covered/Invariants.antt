-- `all_covered` meets its contract: the loop tests the data file of each delete file.
use Prim.Native.Nat.{ℕ}
use mathlib.Core.Path.{◌≡◌}
use mathlib.Core.Bool.{Bool, not, ◌||◌}
use mathlib.Core.List.{List}
use Rattle.lists.specs.Lists.{all}
use Rattle.lists.specs.Runs.{from}
use Rattle.lists.specs.Pieces.{Flags}
use Rattle.layout.specs.Catalog.{Versioned, DeleteFile}
use Rattle.layout.specs.Words.{data_files_in, delete_file_at, delete_files_in, data_file_at}
use Rattle.chaining.specs.Chained.{is_open}
use Rattle.chaining.proofs.chained.all_covered.Given as goal

abbrev pub test : List ℕ → ℕ → (ℕ → Bool) → ℕ → Bool
test fs n q k = not (is_open (data_files_in fs n) k) || q k

abbrev pub covered : List ℕ → ℕ → (ℕ → Bool) → Versioned DeleteFile → Bool
covered fs n q d = test fs n q d.body.data_file

abbrev pub invariant-loop-i : goal.invariant-loop-i
invariant-loop-i l = (p : List ℕ) (q : ℕ → Bool) → Flags (λ j. q (data_file_at l.data_files j).id) l.n l.flags → all (covered l.data_files l.n q) (delete_files_in l.delete_files p l.m) ≡ all (covered l.data_files l.n q) (from (delete_file_at l.delete_files p) l.i l.m)
