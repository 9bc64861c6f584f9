-- Scratch for the whole check is scratch for each test.
use Prim.Native.Nat.{ℕ, ◌*◌, ◌≤◌}
use mathlib.Core.Path.{◌≡◌}
use mathlib.Core.Bool.{true, ◌&&◌}
use mathlib.Core.List.{List}
use native.Mathlib.Omega.{arith}
use borrow.Author.Tests.{leb-true}
use lib.Dec.{leb}
use lib.ListN.{length}
use Rattle.lists.proofs.Tests.{both}
use Rattle.layout.specs.declared.outcome.Counts.{Counts}
use Rattle.soundness_unique.specs.Comparable.{FilesScratch, NamesScratch}
use Rattle.soundness.specs.Scratch.{none_above, Roomy}

-- of each table
record Most (c : Counts) (most : ℕ) : Type 0 where
  schemas : c.schemas ≤ most
  tables : c.tables ≤ most
  columns : c.columns ≤ most
  data_files : c.data_files ≤ most
  delete_files : c.delete_files ≤ most
  scheduled : c.scheduled ≤ most

none_above_lem : (c : Counts) (most : ℕ) → none_above c most ≡ true → Most c most
none_above_lem c most h =
    let e = both (leb c.schemas most && leb c.tables most && leb c.columns most && leb c.data_files most && leb c.delete_files most) (leb c.scheduled most) h in
    let d = both (leb c.schemas most && leb c.tables most && leb c.columns most && leb c.data_files most) (leb c.delete_files most) e.0 in
    let f = both (leb c.schemas most && leb c.tables most && leb c.columns most) (leb c.data_files most) d.0 in
    let g = both (leb c.schemas most && leb c.tables most) (leb c.columns most) f.0 in
    let k = both (leb c.schemas most) (leb c.tables most) g.0 in
    record {
      schemas = leb-true _ _ k.0;
      tables = leb-true _ _ k.1;
      columns = leb-true _ _ g.1;
      data_files = leb-true _ _ f.1;
      delete_files = leb-true _ _ d.1;
      scheduled = leb-true _ _ e.1;
    }

module _ {c : Counts} {keys w v u : List ℕ} (s : Roomy c keys w v u) where
  most : Most c s.most
  most = none_above_lem c s.most s.few

  pub files_scratch : FilesScratch c keys w v
  files_scratch = let m = most in record {
    room = omega (arith, m.data_files, m.delete_files, m.scheduled, s.room);
    places = omega (arith, m.data_files, m.delete_files, m.scheduled, s.places);
    spare = omega (arith, m.data_files, m.delete_files, m.scheduled, s.spare);
  }

  pub names_scratch : NamesScratch c keys w v
  names_scratch = let m = most in record {
    most = s.most;
    schemas = m.schemas;
    tables = m.tables;
    columns = m.columns;
    room = s.room;
    places = omega (arith, s.places);
    spare = omega (arith, s.spare);
  }

  pub deletes_scratch : (2 * c.delete_files ≤ length keys) × (c.delete_files ≤ length w) × (c.delete_files ≤ length v) × (c.delete_files ≤ length u)
  deletes_scratch = let d = most.delete_files in (omega (arith, d, s.room), omega (arith, d, s.places), omega (arith, d, s.spare), omega (arith, d, s.starts))

  -- of what is as long as the keys
  pub rows_scratch : {n : ℕ} → n ≡ length keys → c.tables ≤ n
  rows_scratch e = omega (arith, most.tables, s.room, e)

-- what is as long is scratch too
pub scratch_kept : {c : Counts} {keys w v u keys' w' v' : List ℕ} → Roomy c keys w v u → length keys' ≡ length keys → length w' ≡ length w → length v' ≡ length v → Roomy c keys' w' v' u
scratch_kept s e f g = record { most = s.most; few = s.few; room = rw e s.room; places = rw f s.places; spare = rw g s.spare; starts = s.starts }
