-- The layouts are lawful: what is written is read, and what is read is written again.
use mathlib.Core.Path.{refl}
use lib.Seq.{get_or-drop}
use Rattle.lists.specs.Lists.{range}
use Rattle.lists.proofs.Layouts.{Lawful, words_one_by_one}
use Rattle.layout.specs.Fields.{snapshot_size, schema_size, table_size, column_size, data_file_size, delete_file_size, statistics_size, scheduled_size}
use Rattle.layout.specs.Records.{snapshot_layout, snapshot_words, schema_layout, schema_words, table_layout, table_words, column_layout, column_words, data_file_layout, data_file_words, delete_file_layout, delete_file_words, statistics_layout, statistics_words, scheduled_layout, scheduled_words}

pub snapshot_lawful : Lawful snapshot_layout
unfolding range snapshot_words
snapshot_lawful = record { words_length = λ r. refl; words_read = words_one_by_one snapshot_size; read_words = λ r t. refl; read_drop = λ w k. simp get_or-drop }

pub schema_lawful : Lawful schema_layout
unfolding range schema_words
schema_lawful = record { words_length = λ r. refl; words_read = words_one_by_one schema_size; read_words = λ r t. refl; read_drop = λ w k. simp get_or-drop }

pub table_lawful : Lawful table_layout
unfolding range table_words
table_lawful = record { words_length = λ r. refl; words_read = words_one_by_one table_size; read_words = λ r t. refl; read_drop = λ w k. simp get_or-drop }

pub column_lawful : Lawful column_layout
unfolding range column_words
column_lawful = record { words_length = λ r. refl; words_read = words_one_by_one column_size; read_words = λ r t. refl; read_drop = λ w k. simp get_or-drop }

pub data_file_lawful : Lawful data_file_layout
unfolding range data_file_words
data_file_lawful = record { words_length = λ r. refl; words_read = words_one_by_one data_file_size; read_words = λ r t. refl; read_drop = λ w k. simp get_or-drop }

pub delete_file_lawful : Lawful delete_file_layout
unfolding range delete_file_words
delete_file_lawful = record { words_length = λ r. refl; words_read = words_one_by_one delete_file_size; read_words = λ r t. refl; read_drop = λ w k. simp get_or-drop }

pub statistics_lawful : Lawful statistics_layout
unfolding range statistics_words
statistics_lawful = record { words_length = λ r. refl; words_read = words_one_by_one statistics_size; read_words = λ r t. refl; read_drop = λ w k. simp get_or-drop }

pub scheduled_lawful : Lawful scheduled_layout
unfolding range scheduled_words
scheduled_lawful = record { words_length = λ r. refl; words_read = words_one_by_one scheduled_size; read_words = λ r t. refl; read_drop = λ w k. simp get_or-drop }
