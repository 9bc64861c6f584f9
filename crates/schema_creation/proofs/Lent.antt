-- The tables that 'create schema' is lent: from the check of all runs to what its parts rely on.
use Prim.Native.Nat.{ℕ}
use mathlib.Core.Path.{◌≡◌, refl, ap}
use mathlib.Core.Bool.{true}
use mathlib.Core.List.{List}
use native.Mathlib.Omega.{arith}
use lib.ListN.{length}
use Rattle.layout.specs.declared.outcome.Counts.{Counts}
use Rattle.layout.specs.declared.outcome.Terms.{Terms}
use Rattle.layout.specs.Fields.{schema_size}
use Rattle.layout.specs.Words.{Words, load}
use Rattle.ducklake.specs.Refusals.{bad_name}
use Rattle.ducklake.specs.Commits.{create_schema}
use Rattle.ducklake.specs.Calls.{Call, commit_at, call_refusals, refusal}
use Rattle.ducklake.proofs.facts.FirstRefusals.{first_passed}
use Rattle.ducklake.proofs.claim.Accepted.{numbered_call}
use Rattle.call_laws.specs.Latest.{HasLatest}
use Rattle.call_laws.specs.Writes.{add_counts}
use Rattle.call_laws.proofs.Commits.{held_after}
use Rattle.call_laws.proofs.CommitCounts.{create_schema_adds}
use Rattle.call_laws.proofs.Ready.{ready}
use Rattle.call_laws.proofs.Refusals.{AcceptedCall}
use Rattle.refusals.specs.declared.checked.Checked.{Checked}
use Rattle.refusals.specs.Checked.{checked_of}
use Rattle.refusals.proofs.Laws.{checked_ready}
use Rattle.commits.specs.LentRecords.{WithNames}
use Rattle.commits.specs.Written.{SnapshotRoom, NamedRoom}
use Rattle.commits.proofs.Judged.{name_short}
use Rattle.commits.proofs.LentRecords.{schemas_named_lem}
use Rattle.commits.proofs.Room.{snapshot_room}
use Rattle.schema_creation.specs.Lent.{CreateSchemaLent, create_schema_leaves}

abbrev pub create_schema_lent : (w : Words) (c : Counts) {checked : Checked} → checked ≡ checked_of w c → CreateSchemaLent checked w.snapshots w.schemas w.schema_names c
create_schema_lent w c e = record { words = w; snapshots = refl; schemas = refl; schema_names = refl; checked = e }

module _ {checked : Checked} {ns ss xs : List ℕ} {c : Counts} (l : CreateSchemaLent checked ns ss xs c) where
  pub lent_checked : checked.sound ≡ true → HasLatest ns c.snapshots × WithNames schema_size ss xs c.schemas
  lent_checked h =
      let R = checked_ready l.words c l.checked h in
      (rw l.snapshots at R.latest, rw (l.schemas, l.schema_names) at (schemas_named_lem l.words c R))

  -- a number that is the call's on all tables of these runs is its number on the tables lent
  pub lent_judged : {n : ℕ} (k : Call) → ((w : Words) → w.snapshots ≡ ns → w.schemas ≡ ss → w.schema_names ≡ xs → checked ≡ checked_of w c → (m : ℕ) → n ≡ refusal w c m k)
      → (m : ℕ) → n ≡ refusal l.words c m k
  lent_judged k f = f l.words l.snapshots l.schemas l.schema_names l.checked

  pub lent_relies : (m : ℕ) (terms : Terms) (name : List ℕ) → AcceptedCall l.words c m (commit_at terms (create_schema name))
      → SnapshotRoom ns c.snapshots 1 0 × NamedRoom schema_size ss xs c.schemas name
  unfolding add_counts
  lent_relies m terms name A =
      let w = l.words in
      let k = commit_at terms (create_schema name) in
      let h = held_after w c A.fits terms (create_schema name) (create_schema_adds (load w c) terms.time name) A.room in (
        rw l.snapshots at (snapshot_room w c _ 1 0 (ready w c A.sound) refl h (omega arith) (omega arith)),
        record {
          room = omega (arith, h.schemas, ap length l.schemas);
          place = omega (arith, h.schema_names, ap length l.schema_names);
          short = name_short name (first_passed (call_refusals (load w c) k) (numbered_call (load w c) k) A.judged bad_name);
        },
      )

  pub leaves_all : create_schema_leaves l.words ns ss xs ≡ l.words
  leaves_all = rw (← l.snapshots, ← l.schemas, ← l.schema_names) refl
