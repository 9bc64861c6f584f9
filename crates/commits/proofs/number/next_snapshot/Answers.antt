-- `next_snapshot` meets its contract: the numbers of a snapshot in its limits, and few ids, add up without wrapping.
use Prim.Native.Nat.{ℕ}
use mathlib.Core.Path.{refl}
use native.Mathlib.Numerals.{add-one}
use native.Mathlib.Omega.{arith}
use Rattle.layout.specs.Catalog.{Snapshot}
use Rattle.ducklake.proofs.commits.Moves.{SmallSnapshot, reflects_small}
use Rattle.commits.specs.LentRecords.{CanFollow}
use Rattle.commits.proofs.number.next_snapshot.Goals as goal

small : (s : Snapshot) (a b : ℕ) → CanFollow s a b → SmallSnapshot s
small s a b h = (reflects_small s).to h.in_range

pub next_schema_version-schema_version-requires : goal.next_schema_version-schema_version-requires
next_schema_version-schema_version-requires c = (small _ _ _ c.requires).schema_version

pub overflow_add-result : goal.overflow_add-result
overflow_add-result c = omega (arith, (small _ _ _ c.requires).id)

pub overflow_add-result-2 : goal.overflow_add-result-2
overflow_add-result-2 c = let p = c.requires in omega (arith, (small _ _ _ p).next_catalog_id, p.few_catalog_ids)

pub overflow_add-result-3 : goal.overflow_add-result-3
overflow_add-result-3 c = let p = c.requires in omega (arith, (small _ _ _ p).next_file_id, p.few_file_ids)

pub returns : goal.returns
returns c = rw (c.next_schema_version-schema_version.ensures, add-one) refl
