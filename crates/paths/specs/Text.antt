-- Text that is written piece after piece into a run of bytes.
use Rattle.std.specs.Prelude.{ℕ, ◌+◌, ◌≡◌, List, length}
use Rattle.lists.specs.Runs.{overwrite}

-- `new` stands in the text from `at` on, all else is as it was, and the next piece goes to the place `next`
pub record Written (text : List ℕ) (at : ℕ) (new text' : List ℕ) (next : ℕ) : Type 0 where
  pub bytes : text' ≡ overwrite text at new
  pub end : next ≡ at + length new
