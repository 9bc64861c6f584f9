-- The data file of an id: the first that has it stands at the place that is found.
use Rattle.std.specs.Prelude.{Option}
use Prim.Native.Nat.{ℕ}
use mathlib.Core.Path.{◌≡◌, sym, ◌∙◌}
use mathlib.Core.List.{List}
use Rattle.lists.specs.Runs.{field}
use Rattle.layout.specs.Fields.{data_file_size, data_file_id_word}
use Rattle.layout.specs.Words.{data_file_at, data_files_in}
use Rattle.ducklake.specs.Liveness.{no_data_file, data_file_of_id}
use Rattle.lookup.specs.Order.{place_of}
use Rattle.commits.proofs.Found.{at_place, found_of_id}

pub data_file_is : (run : List ℕ) (n k : ℕ) {r s : Option ℕ} → r ≡ place_of data_file_size data_file_id_word run n k → r ≡ s
    → at_place (data_file_at run) no_data_file s ≡ data_file_of_id (data_files_in run n) k
unfolding data_file_of_id field
data_file_is run n k e q = found_of_id (λ v. v.id) no_data_file (data_file_at run) n k (sym q ∙ e)
