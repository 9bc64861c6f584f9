-- What a cleanup hands out of a run of scheduled records, and what stays.
use Rattle.std.specs.Prelude.{ℕ, ◌*◌, ◌≤◌, ◌≡◌, Bool, not, length}
use mathlib.Core.List.{List, flat_map}
use Rattle.lists.specs.Lists.{filter}
use Rattle.lists.specs.Runs.{overwrite}
use Rattle.layout.specs.Fields.{scheduled_size}
use Rattle.layout.specs.Catalog.{Scheduled}
use Rattle.layout.specs.Words.{table_limit, scheduled_at, scheduled_in}
use Rattle.ducklake.specs.Maintenance.{due, handed_words}

-- n scheduled records in a run that holds them
pub record ScheduledLent (run : List ℕ) (n : ℕ) : Type 0 where
  pub held : scheduled_size * n ≤ length run
  pub few : n ≤ table_limit

-- those of the first n that are due
abbrev pub due_in : List ℕ → ℕ → ℕ → List Scheduled
due_in run n t = filter (due t) (scheduled_in run n)

abbrev pub words_due : List ℕ → ℕ → ℕ → List ℕ
words_due run n t = flat_map handed_words (due_in run n t)

-- their words at the front of the area, and how many these are
pub record Handed (run : List ℕ) (n t : ℕ) (area : List ℕ) (r : ℕ) (area' : List ℕ) : Type 0 where
  pub length : r ≡ length (words_due run n t)
  pub words : area' ≡ overwrite area 0 (words_due run n t)

-- the places of those that are not due
abbrev pub stays_at : List ℕ → ℕ → ℕ → Bool
stays_at run t j = not (due t (scheduled_at run j))
