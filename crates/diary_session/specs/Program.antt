-- What the program prints.
use Rattle.std.specs.Prelude.{ℕ, ◌*◌, List, replicate}
use Rattle.layout.specs.Fields.{snapshot_size, schema_size, table_size, column_size, data_file_size, delete_file_size, statistics_size, scheduled_size}
use Rattle.layout.specs.Names.{name_size}
use Rattle.layout.specs.Words.{Words}
use Rattle.ducklake.specs.Calls.{Result, no_counts}
use Rattle.diary_session.specs.Session.{played}
use Rattle.diary_session.specs.Listing.{listing}

-- the tables that it lends: room for so many records and positions each, and zeros
abbrev pub room_of_each : ℕ
room_of_each = 8

-- records of so many words or bytes each
abbrev pub zeros : ℕ → List ℕ
zeros size = replicate (room_of_each * size) 0

abbrev pub zero_tables : Words
zero_tables = record {
  snapshots = zeros snapshot_size;
  schemas = zeros schema_size;
  schema_names = zeros name_size;
  tables = zeros table_size;
  table_names = zeros name_size;
  columns = zeros column_size;
  column_names = zeros name_size;
  data_files = zeros data_file_size;
  delete_files = zeros delete_file_size;
  positions = zeros 1;
  statistics = zeros statistics_size;
  scheduled = zeros scheduled_size;
}

-- "A program without input plays this up to time 150 and prints a header line, then the files at 5"
unfoldable pub diary_text : List ℕ
diary_text =
    let r : Result = played zero_tables no_counts (zeros 1) in
    listing r.words r.counts r.area
