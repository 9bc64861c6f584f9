-- What the functions that write text rely on.
use Rattle.std.specs.Prelude.{ℕ, ◌+◌, ◌≤◌, List, length}

-- the text has room for `new` from the place `at` on
pub record Room (text : List ℕ) (at : ℕ) (new : List ℕ) : Type 0 where
  pub fits : at + length new ≤ length text
