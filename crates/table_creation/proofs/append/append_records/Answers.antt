-- `append_records` meets its contract: each column of the argument is written in turn, behind those before it.
use mathlib.Core.Path.{◌∙◌}
use native.Mathlib.Omega.{arith}
use Rattle.lists.proofs.Loops.{from_end}
use Rattle.lists.proofs.Writes.{laying_next, laying_done}
use Rattle.layout.specs.Fields.{column_size}
use Rattle.layout.specs.Records.{column_words}
use Rattle.layout.proofs.Records.{column_lawful}
use Rattle.table_creation.proofs.append.append_records.Goals as goal

pub loop-i-preserved : goal.loop-i-preserved
loop-i-preserved c =
    let l = c.loop-i in
    l.invariant ∙ laying_next column_words column_size _ _ _ l.columns _ l.i (omega arith) (column_lawful.words_length _) (omega arith) c.append_column.ensures

pub returns : goal.returns
returns c = (laying_done column_words column_size _ _ _ _ _ c.loop-i.invariant (from_end _ _ _ (omega arith))).1
