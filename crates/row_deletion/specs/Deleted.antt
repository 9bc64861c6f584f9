-- The positions of a data file that are deleted: where they lie, and which of a delete's are among them.
use Rattle.std.specs.Prelude.{ℕ, ◌+◌, ◌≤◌, ◌≡◌, true, cond, List, ltb, eqb, length, take, drop, None, Option, Some}
use Rattle.lists.specs.Lists.{chained, has, place}
use Rattle.layout.specs.declared.outcome.Counts.{Counts}
use Rattle.layout.specs.Words.{position_limit, positions_before, snapshots_in, delete_files_in}
use Rattle.ducklake.specs.Liveness.{latest_of, delete_files_at, deleted_at}
use Rattle.ducklake.specs.Refusals.{already_deleted}
use Rattle.lookup.specs.Positions.{PositionsWithin}

-- n delete files with their positions: of one data file at most one is live at a number, and what is deleted then ascends
pub record DeletesKnown (run positions : List ℕ) (n : ℕ) : Type 0 where
  pub held : PositionsWithin run n (length positions)
  pub within : PositionsWithin run n position_limit
  pub single : (s file : ℕ) → length (delete_files_at (delete_files_in run positions n) s file) ≤ 1
  pub ascending : (s file : ℕ) → chained ltb (deleted_at (delete_files_in run positions n) s file) ≡ true

-- the positions of a data file that are deleted at s: so many, from `start` on
pub record DeletedPart (run : List ℕ) (n s file start count : ℕ) : Type 0 where
  pub within : start + count ≤ positions_before run n
  pub words : (positions : List ℕ) → DeletesKnown run positions n → take count (drop start positions) ≡ deleted_at (delete_files_in run positions n) s file

-- those that are deleted at the latest snapshot
abbrev pub deleted_in : (ns ds ps : List ℕ) → Counts → ℕ → List ℕ
deleted_in ns ds ps c file = deleted_at (delete_files_in ds ps c.delete_files) (latest_of (snapshots_in ns c.snapshots)).id file

abbrev pub place_or_zero : Option ℕ → ℕ
place_or_zero (Some i) = i
place_or_zero None = 0

-- "with 17, the index of an offending position in the call's list (..). Every other place is 0": that of the first of the new positions that is one of the old
unfoldable pub refused_place : ℕ → (old new : List ℕ) → ℕ
refused_place number old new = cond (eqb number already_deleted) (place_or_zero (place (λ p. has p old) 0 new)) 0
