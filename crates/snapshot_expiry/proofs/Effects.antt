-- The writes of an expiry that is not refused: what they rely on holds, and what they leave is its effect, by the law of what each run keeps.
use Prim.Native.Nat.{ℕ, ◌+◌, ◌*◌, ◌≤◌}
use mathlib.Core.Path.{◌≡◌, refl, ap, ◌∙◌}
use mathlib.Core.List.{List, map}
use native.Mathlib.Omega.{arith}
use lib.ListN.{length}
use borrow.Author.Tests.{leb-true}
use Rattle.lists.specs.Pieces.{row_pieces, Compacted}
use Rattle.layout.specs.declared.outcome.Counts.{Counts}
use Rattle.layout.specs.Fields.{snapshot_size, scheduled_size}
use Rattle.layout.specs.Records.{scheduled_layout}
use Rattle.layout.specs.Catalog.{scheduled_record}
use Rattle.layout.specs.Words.{Words, load, store, counts_of, capacity}
use Rattle.ducklake.specs.Refusals.{accepted, bad_expiry_list}
use Rattle.ducklake.specs.Calls.{expire_snapshots, call_refusals, effect, refusal}
use Rattle.ducklake.proofs.facts.FirstRefusals.{first_passed}
use Rattle.ducklake.proofs.claim.Accepted.{numbered_call}
use Rattle.call_laws.specs.Writes.{extend_table}
use Rattle.call_laws.proofs.Expiry.{scheduled_files, Expired, expire_words, expire_counts, expire_room}
use Rattle.call_laws.proofs.Ready.{Ready, ready}
use Rattle.call_laws.proofs.Refusals.{AcceptedCall, accepted_call}
use Rattle.expiry.specs.Remaining.{ids_left, Expirable, snapshot_stays}
use Rattle.expiry.proofs.Expirable.{expirable, schema_versions, table_versions, column_versions, files, located, statistics_of_files}
use Rattle.expiry.proofs.Retained.{kept, files_scheduled}
use Rattle.snapshot_expiry.specs.Written.{DefinitionsLent, DefinitionsLeft, FilesLent, FilesLeft}

-- an expiry that is not refused: its answer is empty, so that no area is too short
abbrev pub NotRefused : Words → Counts → List ℕ → ℕ → Type 0
NotRefused w c ids time = accepted ≡ refusal w c 0 (expire_snapshots ids time)

-- its effect is stored
pub record ExpiryWritten (w : Words) (c : Counts) (ids : List ℕ) (time : ℕ) (r : Counts) (w' : Words) : Type 0 where
  pub counts : r ≡ counts_of (effect (load w c) (expire_snapshots ids time))
  pub words : w' ≡ store w c (effect (load w c) (expire_snapshots ids time))

-- the counts together
abbrev together : ℕ → Counts → Counts → Counts
together n d f = record {
  snapshots = n;
  schemas = d.schemas;
  tables = d.tables;
  columns = d.columns;
  data_files = f.data_files;
  delete_files = f.delete_files;
  positions = f.positions;
  statistics = f.statistics;
  scheduled = f.scheduled;
}

module _ (w : Words) (c : Counts) (ids : List ℕ) (time : ℕ) (h : NotRefused w c ids time) where
  call : AcceptedCall w c 0 (expire_snapshots ids time)
  call = accepted_call w c 0 (expire_snapshots ids time) h refl

  tables_ready : Ready w c
  tables_ready = ready w c call.sound

  pub list_expirable : Expirable w.snapshots c.snapshots ids
  list_expirable = expirable tables_ready ids (first_passed (call_refusals (load w c) (expire_snapshots ids time)) (numbered_call (load w c) (expire_snapshots ids time)) call.judged bad_expiry_list)

  scheduled_room : scheduled_size * (c.scheduled + length (scheduled_files w c ids time)) ≤ length w.scheduled
  unfolding effect capacity
  scheduled_room = omega (arith, leb-true (c.scheduled + length (scheduled_files w c ids time)) (capacity w).scheduled (expire_room w c ids time call.fits refl ∙ call.room))

  pub definitions_lent : DefinitionsLent w.schemas w.schema_names w.tables w.table_names w.columns w.column_names c
  definitions_lent = record { schemas = schema_versions tables_ready; tables = table_versions tables_ready; columns = column_versions tables_ready }

  module _ {left : List ℕ} (L : left ≡ ids_left w.snapshots c.snapshots ids) where
    pub files_lent : FilesLent w.data_files w.delete_files w.positions w.statistics w.scheduled c left time
    files_lent = record {
      files = files tables_ready;
      located = located tables_ready;
      statistics = statistics_of_files tables_ready;
      room = rw (files_scheduled w c ids time L) scheduled_room;
    }

    module _ (n : ℕ) {w' : Words} {d : Counts} {f : Counts}
        (N : Compacted (row_pieces snapshot_size) (snapshot_stays w.snapshots ids) c.snapshots w.snapshots (snapshot_size * n) w'.snapshots)
        (D : DefinitionsLeft w.schemas w.schema_names w.tables w.table_names w.columns w.column_names c left d w'.schemas w'.schema_names w'.tables w'.table_names w'.columns w'.column_names)
        (F : FilesLeft w.data_files w.delete_files w.positions w.statistics w.scheduled c left time f w'.data_files w'.delete_files w'.positions w'.statistics w'.scheduled) where
      expired : Expired w c ids time (kept w c ids time L) w' (together n d f)
      unfolding kept
      expired = record {
        snapshots = N;
        schemas = D.schemas.records_left;
        schema_names = D.schemas.names_left;
        tables = D.tables.records_left;
        table_names = D.tables.names_left;
        columns = D.columns.records_left;
        column_names = D.columns.names_left;
        data_files = F.data_files;
        delete_files = F.delete_files;
        positions = F.positions;
        statistics = F.statistics;
        scheduled = F.scheduled.words ∙ ap (λ xs. extend_table scheduled_layout w.scheduled c.scheduled (map scheduled_record xs)) (files_scheduled w c ids time L);
        more = F.scheduled.count ∙ ap (λ xs. c.scheduled + length xs) (files_scheduled w c ids time L);
      }

      pub expiry_written : ExpiryWritten w c ids time (together n d f) w'
      unfolding effect
      expiry_written = record {
        counts = expire_counts w c ids time call.fits (kept w c ids time L) expired;
        words = expire_words w c ids time call.fits (kept w c ids time L) expired;
      }
