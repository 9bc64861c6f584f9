-- The loop tests each table as the definition does.
use mathlib.Core.Path.{◌≡◌}
use Rattle.lists.specs.Lists.{place}
use Rattle.lists.specs.Runs.{from}
use Rattle.layout.specs.Words.{table_at, tables_in}
use Rattle.listings.specs.Tests.{is_named, place_of_named}
use Rattle.listings.proofs.named.find_named_table.Given as goal

abbrev pub invariant-loop-i : goal.invariant-loop-i
invariant-loop-i l =
    place_of_named (tables_in l.tables l.names l.n) l.s.0 l.schema.0 l.name ≡ place (is_named l.schema.0 l.s.0 l.name) l.i (from (table_at l.tables l.names) l.i l.n)
