-- How many columns a table has on record.
use Rattle.std.specs.Prelude.{ℕ, Bool, ◌&&◌, List, length, nat_eq, nat_le}
use Rattle.lists.specs.Lists.{filter}
use Rattle.layout.specs.Catalog.{column_limit, Versioned, Table, Column}

-- the columns of a table, whatever their lives
unfoldable pub columns_on_record : List (Versioned Column) → ℕ → List (Versioned Column)
columns_on_record cs table = filter (λ c. nat_eq c.body.table table) cs

-- so many columns as a table may have at a snapshot
abbrev pub is_column_count : ℕ → Bool
is_column_count n = nat_le 1 n && nat_le n column_limit

unfoldable pub columns_counted : List (Versioned Column) → Versioned Table → Bool
columns_counted cs t = is_column_count (length (columns_on_record cs t.id))
