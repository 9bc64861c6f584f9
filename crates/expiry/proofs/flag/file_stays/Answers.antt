-- `file_stays` meets its contract: ids ascend, so no other data file has the id that was found.
use Rattle.std.specs.Prelude.{None, Option, Some}
use Prim.Native.Nat.{ℕ}
use mathlib.Core.Path.{◌≡◌, sym, ◌∙◌}
use mathlib.Core.Bool.{true, false}
use mathlib.Core.List.{List}
use lib.Dec.{ltb, eqb}
use Rattle.lists.specs.Lists.{chained}
use Rattle.lists.specs.Runs.{field, fields}
use Rattle.lists.proofs.Places.{found_tells, any_nowhere}
use Rattle.lists.proofs.Search.{any_found}
use Rattle.lists.proofs.Selections.{any_both}
use Rattle.layout.specs.Fields.{data_file_size, data_file_id_word, data_file_begin_word}
use Rattle.layout.specs.Words.{data_file_at, data_files_in}
use Rattle.ducklake.specs.Liveness.{live}
use Rattle.lookup.specs.Order.{place_of}
use Rattle.lookup.specs.Versions.{live_among}
use Rattle.expiry.specs.Remaining.{stays}
use Rattle.expiry.specs.Stayed.{file_stays}
use Rattle.expiry.proofs.flag.file_stays.Goals as goal

module _ (run : List ℕ) (n : ℕ) (ids : List ℕ) (k : ℕ) {r : Option ℕ} (h : r ≡ place_of data_file_size data_file_id_word run n k) where
  file_found : chained ltb (fields data_file_size data_file_id_word run n) ≡ true → {j : ℕ} → r ≡ Some j → file_stays run n ids k ≡ stays data_file_size data_file_begin_word run ids j
  unfolding field live
  file_found e g = any_both (λ f. eqb f.id k) (live_among ids) (data_files_in run n) ∙ any_found (data_file_at run) (λ f. f.id) k n (live_among ids) e h g

  file_nowhere : r ≡ None → file_stays run n ids k ≡ false
  unfolding field
  file_nowhere g = any_both (λ f. eqb f.id k) (live_among ids) (data_files_in run n) ∙ any_nowhere (data_file_at run) (λ f. f.id) k n (live_among ids) h g

pub stays-requires : goal.stays-requires
stays-requires c = (found_tells _ _ _ c.find_data_file.ensures c.in-Some.is).0

pub returns-in-Some : goal.returns-in-Some
returns-in-Some c =
    c.stays.ensures ∙ sym (file_found _ _ _ _ c.find_data_file.ensures c.requires.by_id.ascending c.in-Some.is)

pub returns-in-None : goal.returns-in-None
returns-in-None c = sym (file_nowhere _ _ _ _ c.find_data_file.ensures c.in-None.is)
