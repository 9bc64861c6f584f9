-- Where the positions of delete files lie.
use Rattle.std.specs.Prelude.{ℕ, ◌+◌, ◌*◌, ◌≤◌, ◌≡◌, List, map, length, take}
use Rattle.lists.specs.Lists.{range}
use Rattle.layout.specs.Fields.{delete_file_size}
use Rattle.layout.specs.Words.{positions_before, delete_count}

-- n delete files that together have at most k positions
pub record PositionsWithin (run : List ℕ) (n k : ℕ) : Type 0 where
  pub lent : delete_file_size * n ≤ length run
  pub within : positions_before run n ≤ k

-- n delete files with their positions, those of each from the place in `starts` on
pub record PositionsLocated (run positions starts : List ℕ) (n : ℕ) : Type 0 where
  pub held : PositionsWithin run n (length positions)
  pub located : take n starts ≡ map (positions_before run) (range 0 n)

-- the delete file i with its positions, from `start` on
pub record PositionsFrom (run positions : List ℕ) (i start : ℕ) : Type 0 where
  pub lent : delete_file_size * i + delete_file_size ≤ length run
  pub begin : start ≡ positions_before run i
  pub held : start + delete_count run i ≤ length positions
