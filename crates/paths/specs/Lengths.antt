-- How long a UUID and a path are.
use Rattle.std.specs.Prelude.{ℕ, ◌+◌}

-- "UUID in lower-case hexadecimal (8-4-4-4-12)", with a dash between two groups
abbrev pub uuid_length : ℕ
uuid_length = 8 + 1 + 4 + 1 + 4 + 1 + 4 + 1 + 12

-- "A path is `ducklake-{uuid}.parquet`"
abbrev pub path_length : ℕ
path_length = 9 + uuid_length + 8
