-- The test of whether tables are chained, by computation: a few data files and delete files, and no other records, which the test does not read.
use Prim.Native.Nat.{ℕ}
use mathlib.Core.Path.{◌≡◌, refl}
use mathlib.Core.List.{List, [], ◌∷◌}
use mathlib.Core.Bool.{true, false}
use Rattle.lists.specs.Lists.{all, any}
use Rattle.layout.specs.Records.{uuid_of}
use Rattle.layout.specs.Catalog.{absent, Versioned, DataFile, DeleteFile, Catalog}
use Rattle.chaining.specs.Chained.{is_open, has_open_deletes, is_chained}

-- of three rows, from snapshot 1 on
data_file : ℕ → ℕ → Versioned DataFile
data_file id end = record { id = id; begin = 1; end = end; body = record { table = 1; record_count = 3; row_id_start = 0; uuid = uuid_of 0 id } }

delete_file : ℕ → ℕ → ℕ → ℕ → List ℕ → Versioned DeleteFile
delete_file id data_file begin end positions = record { id = id; begin = begin; end = end; body = record { table = 1; data_file = data_file; positions = positions; uuid = uuid_of 0 id } }

with : List (Versioned DataFile) → List (Versioned DeleteFile) → Catalog
with fs ds = record { snapshots = []; schemas = []; tables = []; columns = []; data_files = fs; delete_files = ds; statistics = []; scheduled = [] }

-- tables that are chained
linked : List Catalog
linked =
    -- no delete files
    with (data_file 0 absent ∷ []) []
    -- an open one
    ∷ with (data_file 0 absent ∷ []) (delete_file 1 0 2 absent (0 ∷ []) ∷ [])
    -- one that ended, with an open one after it, and before it
    ∷ with (data_file 0 absent ∷ []) (delete_file 1 0 2 3 (0 ∷ []) ∷ delete_file 2 0 3 absent (0 ∷ 1 ∷ []) ∷ [])
    ∷ with (data_file 0 absent ∷ []) (delete_file 1 0 3 absent (0 ∷ 1 ∷ []) ∷ delete_file 2 0 2 3 (0 ∷ []) ∷ [])
    -- one that ended with its data file
    ∷ with (data_file 0 3 ∷ []) (delete_file 1 0 2 3 (0 ∷ []) ∷ [])
    -- one that ended, of a data file that is not on record
    ∷ with (data_file 0 absent ∷ []) (delete_file 2 1 2 3 (0 ∷ []) ∷ [])
    ∷ []

-- tables that are not
broken : List Catalog
broken =
    -- the data file is open, and its delete file has ended: the tables of `Gap`
    with (data_file 0 absent ∷ []) (delete_file 1 0 2 3 (0 ∷ []) ∷ [])
    -- two that ended
    ∷ with (data_file 0 absent ∷ []) (delete_file 1 0 2 3 (0 ∷ []) ∷ delete_file 2 0 3 4 (0 ∷ 1 ∷ []) ∷ [])
    -- the one that is open is of another data file
    ∷ with (data_file 0 absent ∷ data_file 1 absent ∷ []) (delete_file 2 0 2 3 (0 ∷ []) ∷ delete_file 3 1 2 absent (0 ∷ []) ∷ [])
    ∷ with (data_file 0 absent ∷ data_file 1 absent ∷ []) (delete_file 2 0 2 absent (0 ∷ []) ∷ delete_file 3 1 2 3 (0 ∷ []) ∷ [])
    ∷ []

all_linked : all is_chained linked ≡ true
unfolding all any data_file delete_file with linked is_open has_open_deletes is_chained
all_linked = refl

none_linked : any is_chained broken ≡ false
unfolding all any data_file delete_file with broken is_open has_open_deletes is_chained
none_linked = refl
