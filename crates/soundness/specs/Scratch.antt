-- What the tests of the check rely on: scratch that is long enough, and the tests before.
use Rattle.std.specs.Prelude.{ℕ, ◌*◌, ◌≤◌, ◌≡◌, Bool, true, ◌&&◌, List, leb, length}
use Rattle.layout.specs.declared.outcome.Counts.{Counts}
use Rattle.layout.specs.Words.{Words, load, capacity, within}
use Rattle.ducklake.specs.Soundness.{fields_in_range, snapshots_rise, lives_sound, ids_ascend, ids_below_next}

-- tables with so few records take little scratch
abbrev pub few_records : ℕ
few_records = 64

abbrev pub some_records : ℕ
some_records = 512

-- whether no table that is compared with itself or with others has more records than that
abbrev pub none_above : Counts → ℕ → Bool
none_above c most =
    leb c.schemas most && leb c.tables most && leb c.columns most && leb c.data_files most && leb c.delete_files most && leb c.scheduled most

-- keys of six words for each record of a table, or of two for each record of three, as many places, twice, and a place for each record of one
pub record Roomy (counts : Counts) (keys w v u : List ℕ) : Type 0 where
  pub most : ℕ
  pub few : none_above counts most ≡ true
  pub room : 6 * most ≤ length keys
  pub places : 3 * most ≤ length w
  pub spare : 3 * most ≤ length v
  pub starts : most ≤ length u

-- the tests of each record by itself hold
pub record RecordsHold (w : Words) (c : Counts) : Type 0 where
  pub room : within c (capacity w) ≡ true
  pub fields : fields_in_range (load w c) ≡ true
  pub rise : snapshots_rise (load w c).snapshots ≡ true
  pub lives : lives_sound (load w c) ≡ true
  pub ascend : ids_ascend (load w c) ≡ true
  pub below : ids_below_next (load w c) ≡ true
