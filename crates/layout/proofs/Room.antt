-- What it tells that counts are within others, and that they fit the lent runs.
use Prim.Native.Nat.{ℕ, ◌*◌, ◌≤◌}
use mathlib.Core.Path.{◌≡◌}
use mathlib.Core.Bool.{Bool, true, ◌&&◌}
use native.Mathlib.Omega.{arith}
use lib.Dec.{leb, eqb}
use lib.ListN.{length}
use borrow.Author.Tests.{eqb-true}
use Rattle.lists.proofs.Tests.{Reflects, both, reflects_as, reflects_and, reflects_leb}
use Rattle.layout.specs.declared.outcome.Counts.{Counts}
use Rattle.layout.specs.Fields.{snapshot_size, schema_size, table_size, column_size, data_file_size, delete_file_size, statistics_size, scheduled_size}
use Rattle.layout.specs.Names.{name_size}
use Rattle.layout.specs.Words.{Words, table_limit, position_limit, positions_before, capacity, within, fits}

-- each count is at most the other's
pub record Within (a b : Counts) : Type 0 where
  pub snapshots : a.snapshots ≤ b.snapshots
  pub schemas : a.schemas ≤ b.schemas
  pub tables : a.tables ≤ b.tables
  pub columns : a.columns ≤ b.columns
  pub data_files : a.data_files ≤ b.data_files
  pub delete_files : a.delete_files ≤ b.delete_files
  pub positions : a.positions ≤ b.positions
  pub statistics : a.statistics ≤ b.statistics
  pub scheduled : a.scheduled ≤ b.scheduled

pub reflects_within : (a b : Counts) → Reflects (within a b) (Within a b)
unfolding within
reflects_within a b =
    reflects_as
    (le (λ c. c.snapshots) & le (λ c. c.schemas) & le (λ c. c.tables) & le (λ c. c.columns) & le (λ c. c.data_files)
    & le (λ c. c.delete_files) & le (λ c. c.positions) & le (λ c. c.statistics) & le (λ c. c.scheduled))
    (λ h. omega arith) (λ h. omega arith)
  where
    infixl 35 ◌&◌
    ◌&◌ : {p q : Bool} {P Q : Type 0} → Reflects p P → Reflects q Q → Reflects (p && q) (P × Q)
    s & t = reflects_and s t

    le : (f : Counts → ℕ) → Reflects (leb (f a) (f b)) (f a ≤ f b)
    le f = reflects_leb (f a) (f b)

-- the runs hold what the counts take, and the counts are within the limits
pub record Held (w : Words) (c : Counts) : Type 0 where
  pub snapshots : snapshot_size * c.snapshots ≤ length w.snapshots
  pub schemas : schema_size * c.schemas ≤ length w.schemas
  pub schema_names : name_size * c.schemas ≤ length w.schema_names
  pub tables : table_size * c.tables ≤ length w.tables
  pub table_names : name_size * c.tables ≤ length w.table_names
  pub columns : column_size * c.columns ≤ length w.columns
  pub column_names : name_size * c.columns ≤ length w.column_names
  pub data_files : data_file_size * c.data_files ≤ length w.data_files
  pub delete_files : delete_file_size * c.delete_files ≤ length w.delete_files
  pub positions : c.positions ≤ length w.positions
  pub statistics : statistics_size * c.statistics ≤ length w.statistics
  pub scheduled : scheduled_size * c.scheduled ≤ length w.scheduled
  pub tables_most : c.tables ≤ table_limit
  pub data_files_most : c.data_files ≤ table_limit
  pub delete_files_most : c.delete_files ≤ table_limit
  pub positions_most : c.positions ≤ position_limit

pub held : (w : Words) (c : Counts) → within c (capacity w) ≡ true → Held w c
unfolding capacity
held w c h = let k = (reflects_within c (capacity w)).to h in omega arith

-- counts that fit have room, and the positions add up
pub fitting : (w : Words) (c : Counts) → fits w c ≡ true → Held w c × (positions_before w.delete_files c.delete_files ≡ c.positions)
unfolding fits
fitting w c h = let k = both (within c (capacity w)) (eqb (positions_before w.delete_files c.delete_files) c.positions) h in (held w c k.0, eqb-true _ _ k.1)

-- runs of the same lengths
pub record SameLengths (v w : Words) : Type 0 where
  pub snapshots : length v.snapshots ≡ length w.snapshots
  pub schemas : length v.schemas ≡ length w.schemas
  pub schema_names : length v.schema_names ≡ length w.schema_names
  pub tables : length v.tables ≡ length w.tables
  pub table_names : length v.table_names ≡ length w.table_names
  pub columns : length v.columns ≡ length w.columns
  pub column_names : length v.column_names ≡ length w.column_names
  pub data_files : length v.data_files ≡ length w.data_files
  pub delete_files : length v.delete_files ≡ length w.delete_files
  pub positions : length v.positions ≡ length w.positions
  pub statistics : length v.statistics ≡ length w.statistics
  pub scheduled : length v.scheduled ≡ length w.scheduled

pub capacity_same : (v w : Words) → SameLengths v w → capacity v ≡ capacity w
unfolding capacity
capacity_same v w e = cc
