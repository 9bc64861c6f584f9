-- `append_records` meets its contract: each column of the argument is written in turn, behind those before it.
use Prim.Native.Nat.{◌+◌}
use mathlib.Core.Path.{◌≡◌}
use mathlib.Core.List.{map}
use Rattle.lists.specs.Lists.{range}
use Rattle.lists.specs.Runs.{from}
use Rattle.lists.proofs.Writes.{laying}
use Rattle.layout.specs.Fields.{column_size}
use Rattle.layout.specs.Records.{column_words}
use Rattle.table_creation.specs.Columns.{new_column_record}
use Rattle.table_creation.proofs.append.append_records.Given as goal

abbrev pub invariant-loop-i : goal.invariant-loop-i
invariant-loop-i l =
    (laying column_words column_size (map (new_column_record l.begin.0 l.table.0 l.new_columns) (range 0 l.k)) l.initial.columns l.n ≡ laying column_words column_size (from (new_column_record l.begin.0 l.table.0 l.new_columns) l.i l.k) l.columns (l.n + l.i))
