-- What the parts of the check tell.
use Rattle.std.specs.Prelude.{ℕ, ◌≡◌, ◌&&◌}
use Rattle.layout.specs.declared.outcome.Counts.{Counts}
use Rattle.layout.specs.Words.{Words, load}
use Rattle.ducklake.specs.Soundness.{files_distinct, names_apart, positions_add_up, deletes_sound, row_ranges_sound, first_unsound}
use Rattle.soundness.specs.declared.relations.Compared.{Compared}
use Rattle.soundness.specs.Scratch.{RecordsHold}

-- the lines that look at each record by itself: where none fails they hold, and one that fails is the first
pub record Tells (w : Words) (c : Counts) (line : ℕ) : Type 0 where
  pub passes : line ≡ 0 → RecordsHold w c
  pub fails : (line ≡ 0 → ⊥) → line ≡ first_unsound w c

-- the tests that compare records with others of their kind
pub record Compares (w : Words) (c : Counts) (r : Compared) : Type 0 where
  pub distinct : r.distinct ≡ files_distinct (load w c)
  pub apart : r.apart ≡ names_apart (load w c)
  pub deletes : r.deletes ≡ (positions_add_up w c && deletes_sound (load w c))
  pub rows : r.rows ≡ row_ranges_sound (load w c)
