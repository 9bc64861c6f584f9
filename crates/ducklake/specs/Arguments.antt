-- The arguments of commits that are lists: flat runs of words, and of bytes for names.
use Rattle.std.specs.Prelude.{ℕ, ◌+◌, ◌*◌, ◌/◌, Bool, not, ◌&&◌, List, map, leb, ltb, eqb, length, get_or}
use Rattle.lists.specs.Lists.{range, all, non_empty, pairwise, chained, agree}
use Rattle.layout.specs.Catalog.{column_limit, Versioned, Column, Statistics}
use Rattle.layout.specs.Names.{name_size, name_at, is_name, same_name}
use Rattle.layout.specs.Types.{is_type}
use Rattle.ducklake.specs.Soundness.{is_flag, statistics_fit}

-- two names of which the second, a new one, may not stand beside the first
unfoldable pub clashes : List ℕ → List ℕ → Bool
clashes = same_name

-- columns: type and nulls_allowed, two words each, with a name place each

abbrev pub column_argument_size : ℕ
column_argument_size = 2

abbrev pub column_arguments : List ℕ → ℕ
column_arguments words = length words / column_argument_size

-- a column of a new table: "columns get (..) orders 0, 1, …"
abbrev pub column_argument : ℕ → List ℕ → List ℕ → ℕ → Column
column_argument table words names i = record {
  table = table;
  order = i;
  type_code = get_or words (column_argument_size * i) 0;
  nulls_allowed = get_or words (column_argument_size * i + 1) 0;
  name = name_at names i;
}

unfoldable pub new_columns : ℕ → List ℕ → List ℕ → List Column
new_columns table words names = map (column_argument table words names) (range 0 (column_arguments words))

-- "unknown type, bad flag, bad (..) name": a column has none of these
abbrev pub column_fits : Column → Bool
column_fits c = is_type c.type_code && is_flag c.nulls_allowed && is_name c.name

-- "not 1 to 16"; a ragged run is no list of columns
unfoldable pub columns_whole : List ℕ → List ℕ → Bool
columns_whole words names =
    eqb (length words) (column_argument_size * column_arguments words) && eqb (length names) (name_size * column_arguments words)
    && leb 1 (column_arguments words) && leb (column_arguments words) column_limit

-- "column list: not 1 to 16, unknown type, bad flag, bad or repeated name"
unfoldable pub columns_fit : ℕ → List ℕ → List ℕ → Bool
columns_fit table words names =
    columns_whole words names && all column_fits (new_columns table words names)
    && pairwise (λ a b. not (clashes a.name b.name)) (new_columns table words names)

-- statistics: column id, null_count, has_min, has_max, min and max, six words each

abbrev pub statistics_argument_size : ℕ
statistics_argument_size = 6

abbrev pub statistics_arguments : List ℕ → ℕ
statistics_arguments words = length words / statistics_argument_size

abbrev pub statistics_argument : ℕ → List ℕ → ℕ → Statistics
statistics_argument data_file words i = record {
  data_file = data_file;
  column = get_or words (statistics_argument_size * i) 0;
  null_count = get_or words (statistics_argument_size * i + 1) 0;
  has_min = get_or words (statistics_argument_size * i + 2) 0;
  has_max = get_or words (statistics_argument_size * i + 3) 0;
  min = get_or words (statistics_argument_size * i + 4) 0;
  max = get_or words (statistics_argument_size * i + 5) 0;
}

unfoldable pub new_statistics : ℕ → List ℕ → List Statistics
new_statistics data_file words = map (statistics_argument data_file words) (range 0 (statistics_arguments words))

-- one for each of these columns, "by ascending id", in a file of so many rows; a ragged run is no list of statistics
unfoldable pub statistics_argument_fits : List (Versioned Column) → ℕ → ℕ → List ℕ → Bool
statistics_argument_fits columns rows data_file words =
    eqb (length words) (statistics_argument_size * statistics_arguments words) && agree (statistics_fit rows) columns (new_statistics data_file words)

-- "positions empty, not ascending strictly, or past the file": positions of a file of so many rows
unfoldable pub positions_fit : ℕ → List ℕ → Bool
positions_fit rows positions = non_empty positions && chained ltb positions && all (λ p. ltb p rows) positions

-- "expiry list empty or not ascending strictly"
unfoldable pub expiry_list_fits : List ℕ → Bool
expiry_list_fits ids = non_empty ids && chained ltb ids
