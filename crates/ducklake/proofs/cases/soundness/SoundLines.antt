-- What the cases of SoundTables are worth, by computation: each breaks just its line or none, or its line first, and the session's words are those that the
-- diary's calls leave.
use Prim.Native.Nat.{ℕ, zero, suc, ◌+◌, ◌*◌}
use mathlib.Core.Path.{◌≡◌, refl}
use mathlib.Core.Bool.{Bool, true, false, not, ◌&&◌, ◌||◌}
use mathlib.Core.List.{List, [], ◌∷◌, map}
use lib.Dec.{eqb}
use lib.ListN.{drop, get_or, replicate}
use Rattle.lists.specs.Lists.{all, agree}
use Rattle.lists.specs.Runs.{overwrite}
use Rattle.layout.specs.declared.outcome.Counts.{Counts}
use Rattle.layout.specs.Catalog.{Catalog}
use Rattle.layout.specs.Fields.{snapshot_size, schema_size, table_size, column_size, data_file_size, delete_file_size, statistics_size, scheduled_size}
use Rattle.layout.specs.Names.{name_size}
use Rattle.layout.specs.Words.{Words, load, capacity, within}
use Rattle.ducklake.specs.Soundness.{fields_in_range, snapshots_rise, lives_sound, ids_ascend, ids_below_next, files_distinct, lives_nest, names_apart, deletes_sound, row_ranges_sound, statistics_sound, column_counts_sound, positions_add_up, first_unsound}
use Rattle.ducklake.specs.Calls.{Call, Result, perform, perform_fresh}
use Rattle.ducklake.proofs.cases.Sessions.{passes}
use Rattle.ducklake.proofs.cases.Diary.{area, to_end}
use Rattle.ducklake.proofs.cases.soundness.SoundTables.{lent, small, cases, several, session}
use Rattle.ducklake.proofs.cases.soundness.SoundTables as run

abbrev Runs : Type 0
Runs = List (List ℕ)

-- Words in runs

-- how many words a record of a run has; the used counts are one record
sizes : List ℕ
sizes =
    snapshot_size ∷ schema_size ∷ table_size ∷ column_size ∷ data_file_size ∷ delete_file_size ∷ 1 ∷ statistics_size ∷ scheduled_size ∷ 9 ∷ name_size ∷ name_size ∷ name_size ∷ []

-- the word of a run that is a word of a record of it
word_of : ℕ → ℕ → ℕ → ℕ
word_of r i word = get_or sizes r 0 * i + word

-- words written over the run of a number
write_at : ℕ → ℕ → List ℕ → Runs → Runs
write_at r k xs [] = []
write_at zero k xs (ws ∷ rest) = overwrite ws k xs ∷ rest
write_at (suc r) k xs (ws ∷ rest) = ws ∷ write_at r k xs rest

-- each word of a case at its place
changed : Runs → List ℕ → Runs
changed rs [] = rs
changed rs (r ∷ []) = rs
changed rs (r ∷ i ∷ []) = rs
changed rs (r ∷ i ∷ field ∷ []) = rs
changed rs (r ∷ i ∷ field ∷ x ∷ rest) = changed (write_at r (word_of r i field) (x ∷ []) rs) rest

-- each record at its place
records : Runs → List (List ℕ) → Runs
records rs [] = rs
records rs ([] ∷ rest) = records rs rest
records rs ((r ∷ []) ∷ rest) = records rs rest
records rs ((r ∷ i ∷ xs) ∷ rest) = records (write_at r (word_of r i 0) xs rs) rest

zeros_of : List ℕ → List ℕ
zeros_of xs = replicate (word_of (get_or xs 0 0) (get_or xs 1 0) (get_or xs 2 0)) 0

zeros : Runs
zeros = map zeros_of lent

start : Runs
start = records zeros small

-- The runs as the calls are lent them, and back

words : Runs → Words
words rs = record {
  snapshots = get_or rs run.snapshots [];
  schemas = get_or rs run.schemas [];
  schema_names = get_or rs run.schema_names [];
  tables = get_or rs run.tables [];
  table_names = get_or rs run.table_names [];
  columns = get_or rs run.columns [];
  column_names = get_or rs run.column_names [];
  data_files = get_or rs run.data_files [];
  delete_files = get_or rs run.delete_files [];
  positions = get_or rs run.positions [];
  statistics = get_or rs run.statistics [];
  scheduled = get_or rs run.scheduled [];
}

used : Runs → Counts
used rs =
    let ns : List ℕ = get_or rs run.counts [] in
    record {
      snapshots = get_or ns run.snapshots 0;
      schemas = get_or ns run.schemas 0;
      tables = get_or ns run.tables 0;
      columns = get_or ns run.columns 0;
      data_files = get_or ns run.data_files 0;
      delete_files = get_or ns run.delete_files 0;
      positions = get_or ns run.positions 0;
      statistics = get_or ns run.statistics 0;
      scheduled = get_or ns run.scheduled 0;
    }

runs_of : Words → Counts → Runs
runs_of w c =
    w.snapshots ∷ w.schemas ∷ w.tables ∷ w.columns ∷ w.data_files ∷ w.delete_files ∷ w.positions ∷ w.statistics ∷ w.scheduled
    ∷ (c.snapshots ∷ c.schemas ∷ c.tables ∷ c.columns ∷ c.data_files ∷ c.delete_files ∷ c.positions ∷ c.statistics ∷ c.scheduled ∷ [])
    ∷ w.schema_names ∷ w.table_names ∷ w.column_names ∷ []

-- Lines of 'Sound tables'

-- whether each of them holds, and after them the limit of columns
lines : Runs → List Bool
lines rs =
    let w : Words = words rs in
    let c : Counts = used rs in
    let C : Catalog = load w c in
    (within c (capacity w) && fields_in_range C) ∷ snapshots_rise C.snapshots ∷ lives_sound C ∷ ids_ascend C ∷ (ids_below_next C && files_distinct C) ∷ lives_nest C
    ∷ names_apart C ∷ (positions_add_up w c && deletes_sound C) ∷ row_ranges_sound C ∷ statistics_sound C ∷ column_counts_sound C ∷ []

-- the line is the first that doesn't hold
is_first : ℕ → Runs → Bool
is_first line rs = eqb (first_unsound (words rs) (used rs)) line

-- and all after it hold
others_hold : ℕ → Runs → Bool
others_hold line rs = all (λ b. b) (drop line (lines rs))

-- a case breaks its line and no other; of counts that the runs have no room for nothing else is asked, whatever there is past their end
breaks : List ℕ → Bool
breaks [] = false
breaks (line ∷ changes) =
    let rs : Runs = changed start changes in
    is_first line rs && (not (within (used rs) (capacity (words rs))) || others_hold line rs)

cases_break : all breaks cases ≡ true
unfolding passes lent small cases breaks is_first others_hold start zeros zeros_of lines first_unsound words used records changed write_at word_of sizes
cases_break = refl

-- these break their line first, and another
breaks_more : List ℕ → Bool
breaks_more [] = false
breaks_more (line ∷ changes) =
    let rs : Runs = changed start changes in
    is_first line rs && not (others_hold line rs)

several_break : all breaks_more several ≡ true
unfolding passes lent small several breaks_more is_first others_hold start zeros zeros_of lines first_unsound words used records changed write_at word_of sizes
several_break = refl

-- The session

-- the runs that it comes to, call by call
steps : Runs → List (List ℕ) → List Runs
steps rs [] = []
steps rs ([] ∷ rest) = rs ∷ steps rs rest
steps rs ((r ∷ []) ∷ rest) = steps rs rest
steps rs ((r ∷ i ∷ xs) ∷ rest) = steps (write_at r (word_of r i 0) xs rs) rest

left : Result → List Call → List Runs
left r [] = runs_of r.words r.counts ∷ []
left r (k ∷ ks) = runs_of r.words r.counts ∷ left (perform k r.words r.counts area) ks

session_is : agree (agree (agree eqb)) (steps zeros session) (left (perform_fresh 100 (words zeros) (used zeros) area) to_end) ≡ true
unfolding passes lent session area to_end steps left zeros zeros_of words used runs_of write_at word_of sizes
session_is = refl
