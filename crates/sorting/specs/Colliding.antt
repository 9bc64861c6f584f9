-- Hashes of keys; places without those whose hash no other place has.
use Rattle.std.specs.Prelude.{◌≡◌, ℕ, ◌+◌, ◌*◌, ◌/◌, ◌%◌, ◌^◌, min, Bool, true, false, ltb, List, [], ◌∷◌, length, ◌≢◌, nat_eq, nat_lt, slice_index}
use Rattle.lists.specs.Lists.{all, pairwise, count}
use Rattle.lists.specs.Runs.{from, field}
use Rattle.sorting.specs.declared.colliding.Round.{Round}
use Rattle.sorting.specs.declared.colliding.Round.TheVariants.{First, Second}
use Rattle.sorting.specs.Keys.{same_words}

-- the first words of a key, and whether those of two keys agree
abbrev pub prefix_at : ℕ → ℕ → List ℕ → ℕ → List ℕ
prefix_at used size run i = from (λ k. field size k run i) 0 used

abbrev pub same_prefix : ℕ → ℕ → List ℕ → ℕ → ℕ → Bool
same_prefix used size run i j = same_words (prefix_at used size run i) (prefix_at used size run j)

-- a word mixed: one half of it times a factor, and the other half
abbrev pub half : ℕ
half = 4294967296

abbrev pub factor : Round → ℕ
factor First = 2654435769
factor Second = 3266489917

abbrev pub mixed : Round → ℕ → ℕ
mixed round h = h % half * factor round + h / half

-- the digest of words that follow others whose digest is h
unfoldable pub digest : Round → ℕ → List ℕ → ℕ
digest round h [] = h
digest round h (x ∷ xs) = digest round ((mixed round h + x) % 2 ^ 64) xs

-- a hash is some digits of a digest, mixed once more
abbrev pub hash_limit : ℕ
hash_limit = 65536

-- for some places a hash has fewer digits
abbrev pub some_hashes : ℕ
some_hashes = 4096

abbrev pub hashed : Round → ℕ → ℕ
hashed round h = mixed round h / hash_limit % hash_limit

abbrev pub hash_at : Round → ℕ → ℕ → List ℕ → ℕ → ℕ
hash_at round used size run i = hashed round (digest round 0 (prefix_at used size run i))

-- of a record where it stands: the hash of one word, and that of two
abbrev pub field_hash : ℕ → ℕ → List ℕ → ℕ → ℕ
field_hash size at run i = field size at run i % hash_limit

abbrev pub pair_hash : ℕ → ℕ → ℕ → List ℕ → ℕ → ℕ
pair_hash size a b run i = hashed First (digest First 0 (field size a run i ∷ field size b run i ∷ []))

-- how often each hash occurs, up to twice
pub record Counted (hashes counts : List ℕ) : Type 0 where
  pub counted : (h : ℕ) → slice_index counts h ≡ min 2 (count (nat_eq h) hashes)

-- a hash that occurs twice or more
abbrev pub colliding : List ℕ → ℕ → Bool
colliding counts h = nat_lt 1 (slice_index counts h)

-- each hash has a count
pub record Hashes (hashes counts : List ℕ) : Type 0 where
  pub below : all (λ h. ltb h (length counts)) hashes ≡ true

-- places of which some are left out: what holds of any two with different hashes is decided by those left
pub record Kept (hash : ℕ → ℕ) (old new : List ℕ) : Type 0 where
  pub decided : (R : ℕ → ℕ → Bool) → ((i j : ℕ) → (hash i ≢ hash j) → R i j ≡ true) → pairwise R new ≡ pairwise R old
  pub within : (P : ℕ → Bool) → all P old ≡ true → all P new ≡ true

-- the same of any two whose first `used` words differ
pub record Thinned (size used : ℕ) (run old new : List ℕ) : Type 0 where
  pub decided : (R : ℕ → ℕ → Bool) → ((i j : ℕ) → same_prefix used size run i j ≡ false → R i j ≡ true) → pairwise R new ≡ pairwise R old
  pub within : (P : ℕ → Bool) → all P old ≡ true → all P new ≡ true
