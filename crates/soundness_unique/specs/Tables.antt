-- The tables of files in a struct, as a contract sees them: what is lent, and the word, the key and the hashes of a file by its place in all of them.
use Rattle.std.specs.Prelude.{ℕ, List}
use Rattle.layout.specs.declared.record.Uuid.{Uuid}
use Rattle.layout.specs.Words.{data_files_in, delete_files_in, scheduled_in}
use Rattle.ducklake.specs.Soundness.{ids_of_files, uuids_of_files}
use Rattle.soundness_unique.specs.declared.distinct.FileTables.{FileTables}
use Rattle.soundness_unique.specs.declared.distinct.FileWords.{FileWords}
use Rattle.soundness_unique.specs.Files.{file_word, file_key, id_hash, uuid_hash}
use Rattle.soundness_unique.specs.Comparable.{FilesLent}

abbrev pub TablesLent : FileTables → Type 0
TablesLent f = FilesLent f.data_files.now f.delete_files.now f.scheduled.now f.counts

abbrev pub word_in : FileTables → FileWords → ℕ → ℕ
word_in f = file_word f.data_files.now f.delete_files.now f.scheduled.now f.counts

abbrev pub key_in : FileTables → FileWords → ℕ → ℕ → List ℕ
key_in f = file_key f.data_files.now f.delete_files.now f.scheduled.now f.counts

abbrev pub id_hash_in : FileTables → ℕ → ℕ
id_hash_in f = id_hash f.data_files.now f.delete_files.now f.scheduled.now f.counts

abbrev pub uuid_hash_in : FileTables → ℕ → ℕ
uuid_hash_in f = uuid_hash f.data_files.now f.delete_files.now f.scheduled.now f.counts

-- the ids and the UUIDs of all of them
abbrev pub ids_in : FileTables → List ℕ → List ℕ
ids_in f positions =
    ids_of_files (data_files_in f.data_files.now f.counts.data_files) (delete_files_in f.delete_files.now positions f.counts.delete_files) (scheduled_in f.scheduled.now f.counts.scheduled)

abbrev pub uuids_in : FileTables → List ℕ → List Uuid
uuids_in f positions =
    uuids_of_files (data_files_in f.data_files.now f.counts.data_files) (delete_files_in f.delete_files.now positions f.counts.delete_files) (scheduled_in f.scheduled.now f.counts.scheduled)
