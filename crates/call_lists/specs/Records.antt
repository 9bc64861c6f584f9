-- How a call or a reading lies in a list of them: sixteen words, in this order.
use Rattle.std.specs.Prelude.{ℕ, ◌+◌, ◌*◌, List, get_or}
use Rattle.layout.specs.Records.{snapshot_id, catalog_id, file_id, uuid_of}
use Rattle.call_lists.specs.declared.record.Span.{Span}
use Rattle.call_lists.specs.declared.record.CallRecord.{CallRecord}

abbrev pub call_size : ℕ
call_size = 16

abbrev pub call_kind_word : ℕ
call_kind_word = 0

abbrev pub call_time_word : ℕ
call_time_word = 1

abbrev pub call_snapshot_word : ℕ
call_snapshot_word = 2

abbrev pub call_catalog_word : ℕ
call_catalog_word = 3

abbrev pub call_file_word : ℕ
call_file_word = 4

abbrev pub call_column_word : ℕ
call_column_word = 5

abbrev pub call_scalar_word : ℕ
call_scalar_word = 6

abbrev pub call_record_count_word : ℕ
call_record_count_word = 7

abbrev pub call_uuid_high_word : ℕ
call_uuid_high_word = 8

abbrev pub call_uuid_low_word : ℕ
call_uuid_low_word = 9

abbrev pub call_words_start_word : ℕ
call_words_start_word = 10

abbrev pub call_words_length_word : ℕ
call_words_length_word = 11

abbrev pub call_name_start_word : ℕ
call_name_start_word = 12

abbrev pub call_name_length_word : ℕ
call_name_length_word = 13

abbrev pub call_names_start_word : ℕ
call_names_start_word = 14

abbrev pub call_names_length_word : ℕ
call_names_length_word = 15

abbrev pub span_of : ℕ → ℕ → Span
span_of start count = record { start = start; length = count }

abbrev pub read_call : List ℕ → ℕ → CallRecord
read_call w k = record {
  kind = get_or w (k + call_kind_word) 0;
  time = get_or w (k + call_time_word) 0;
  snapshot = snapshot_id (get_or w (k + call_snapshot_word) 0);
  catalog = catalog_id (get_or w (k + call_catalog_word) 0);
  file = file_id (get_or w (k + call_file_word) 0);
  column = get_or w (k + call_column_word) 0;
  scalar = get_or w (k + call_scalar_word) 0;
  record_count = get_or w (k + call_record_count_word) 0;
  uuid = uuid_of (get_or w (k + call_uuid_high_word) 0) (get_or w (k + call_uuid_low_word) 0);
  words = span_of (get_or w (k + call_words_start_word) 0) (get_or w (k + call_words_length_word) 0);
  name = span_of (get_or w (k + call_name_start_word) 0) (get_or w (k + call_name_length_word) 0);
  names = span_of (get_or w (k + call_names_start_word) 0) (get_or w (k + call_names_length_word) 0);
}

-- the record at place i
abbrev pub call_at : List ℕ → ℕ → CallRecord
call_at w i = read_call w (call_size * i)
