-- Records with lives, and such with names, in a struct each, as a contract sees them.
use Rattle.std.specs.Prelude.{◌≡◌, ℕ, ◌+◌, ◌*◌, ◌≤◌, Bool, true, List, length}
use Rattle.layout.specs.Names.{name_size}
use Rattle.sorting.specs.Keys.{Keyed}
use Rattle.soundness_unique.specs.declared.naming.Records.{Records}
use Rattle.soundness_unique.specs.declared.naming.NamedRecords.{NamedRecords}
use Rattle.soundness_unique.specs.Naming.{is_inside, name_hash, name_key, live_together, keys_apart, names_apart_at, Living, keyed_at, NamesLiving, NameLent}

-- whether there is a record at a place, and at each of some
abbrev pub HasRecord : Records → ℕ → Type 0
HasRecord r i = r.size * i + r.size ≤ length r.table.now

abbrev pub HaveRecords : Records → List ℕ → Type 0
HaveRecords r places = Keyed r.size r.table.now places

-- whether two share a live number, and whether n have lives that are not empty
abbrev pub together : Records → ℕ → ℕ → Bool
together r = live_together r.size r.begin r.table.now

abbrev pub AllLive : Records → ℕ → Type 0
AllLive r n = Living r.size r.begin r.table.now n

-- a place of one of n with its key, and whether two differ in their keys, the begins left aside, or share no live number
abbrev pub has_key : ℕ → List ℕ → Records → ℕ → ℕ → Bool
has_key used keys r = keyed_at used keys r.size r.begin r.table.now

abbrev pub apart_by : ℕ → List ℕ → Records → ℕ → ℕ → Bool
apart_by used keys r = keys_apart used keys r.size r.begin r.table.now

-- records with names: one at a place, some, the first n, and n whose lives are not empty
abbrev pub HasName : NamedRecords → ℕ → Type 0
HasName x i = NameLent x.records.size x.group x.records.table.now x.names.now i

pub record HaveNames (x : NamedRecords) (places : List ℕ) : Type 0 where
  pub recorded : HaveRecords x.records places
  pub grouped : is_inside x.group x.records.size ≡ true
  pub named : Keyed name_size x.names.now places

pub record NamesLent (x : NamedRecords) (n : ℕ) : Type 0 where
  pub lent : x.records.size * n ≤ length x.records.table.now
  pub grouped : is_inside x.group x.records.size ≡ true
  pub names_lent : name_size * n ≤ length x.names.now

abbrev pub AllNamed : NamedRecords → ℕ → Type 0
AllNamed x n = NamesLiving x.records.size x.group x.records.begin x.records.table.now x.names.now n

-- their hashes and their keys, and whether two of one group differ in their names or share no live number
abbrev pub hash_of_name : NamedRecords → ℕ → ℕ
hash_of_name x = name_hash x.records.size x.group x.records.table.now x.names.now

abbrev pub key_of_name : NamedRecords → ℕ → List ℕ
key_of_name x = name_key x.records.size x.group x.records.begin x.records.table.now x.names.now

abbrev pub names_apart_in : NamedRecords → ℕ → ℕ → Bool
names_apart_in x = names_apart_at x.records.size x.group x.records.begin x.records.table.now x.names.now
