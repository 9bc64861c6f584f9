-- The id and the life of a record, whatever else it holds: what lookups look at.
use Rattle.std.specs.Prelude.{ℕ, ◌+◌, Bool, List, map}
use Rattle.lists.specs.Lists.{range, any}
use Rattle.lists.specs.Runs.{field}
use Rattle.layout.specs.Records.{snapshot_id}
use Rattle.layout.specs.Catalog.{Versioned}
use Rattle.ducklake.specs.Liveness.{live}
use Rattle.lookup.specs.declared.life.Life.{Life}

-- records of `size` words with begin and end in the word `at` and the next
abbrev pub life_at : ℕ → ℕ → List ℕ → ℕ → Life
life_at size at run i = record { begin = snapshot_id (field size at run i); end = snapshot_id (field size (at + 1) run i) }

-- a record of that life
abbrev pub with_life : Life → Versioned (Unit {0})
with_life l = record { id = 0; begin = l.begin.0; end = l.end.0; body = tt }

-- live at one of these numbers
abbrev pub live_among : {A : Type 0} → List ℕ → Versioned A → Bool
live_among ids v = any (λ s. live s v) ids

-- the record at place i, with its id in the word `id_word`
abbrev pub version_at : ℕ → ℕ → ℕ → List ℕ → ℕ → Versioned (Unit {0})
version_at size id_word at run i = record { id = field size id_word run i; begin = field size at run i; end = field size (at + 1) run i; body = tt }

abbrev pub versions_in : ℕ → ℕ → ℕ → List ℕ → ℕ → List (Versioned (Unit {0}))
versions_in size id_word at run n = map (version_at size id_word at run) (range 0 n)
