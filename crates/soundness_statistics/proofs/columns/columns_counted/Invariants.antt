-- `columns_counted` meets its contract: the columns of each table stand together, and the loop judges the length of their block.
use Rattle.std.proofs.Common.{◌≡◌, ℕ, List}
use Rattle.lists.specs.Lists.{all}
use Rattle.lists.specs.Runs.{from}
use Rattle.layout.specs.Words.{table_at, tables_in, columns_in}
use Rattle.soundness_statistics.specs.Counted.{columns_counted}
use Rattle.soundness_statistics.proofs.columns.columns_counted.Given as goal

abbrev pub invariant-loop-i : goal.invariant-loop-i
invariant-loop-i l =
    (t k : List ℕ) → all (columns_counted (columns_in l.columns k l.m)) (tables_in l.tables t l.n) ≡ all (columns_counted (columns_in l.columns k l.m)) (from (table_at l.tables t) l.i l.n)
