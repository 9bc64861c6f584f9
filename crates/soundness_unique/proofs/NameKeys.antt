-- The keys of names and of orders: equal but for the begin where group and name, or table and order, are equal.
use Prim.Native.Nat.{ℕ, ◌+◌, ◌%◌, ◌^◌, ◌<◌}
use mathlib.Core.Path.{◌≡◌, refl, sym, ap, ap₂, ◌∙◌}
use mathlib.Core.Bool.{Bool, true, false, not, ◌&&◌, ◌||◌, and-true}
use mathlib.Core.List.{List, [], ◌∷◌}
use native.Mathlib.Omega.{arith}
use lib.Dec.{eqb}
use lib.ListN.{length, get_or, take}
use borrow.Author.Tests.{ltb-true, eqb-true}
use Rattle.lists.specs.Lists.{range, all, pairwise, agree}
use Rattle.lists.specs.Runs.{field}
use Rattle.lists.proofs.Tests.{if, both}
use Rattle.lists.proofs.Members.{In}
use Rattle.lists.proofs.Places.{all-at}
use Rattle.lists.proofs.Selections.{all_both, pairwise_ext, pairwise_map}
use Rattle.layout.specs.declared.outcome.Counts.{Counts}
use Rattle.layout.specs.Fields.{schema_size, schema_begin_word, table_size, table_begin_word, table_schema_word, column_size, column_table_word, column_order_word, column_begin_word}
use Rattle.layout.specs.Names.{name_at, same_name}
use Rattle.layout.specs.Words.{schema_at, schemas_in, table_at, tables_in, column_at, columns_in}
use Rattle.ducklake.specs.Soundness.{overlap, schemas_apart, tables_apart, columns_apart}
use Rattle.names.specs.NameWords.{name_word, name_words}
use Rattle.names.proofs.NameWords.{words_agree}
use Rattle.sorting.specs.declared.colliding.Round.TheVariants.{First}
use Rattle.sorting.specs.Colliding.{prefix_at, same_prefix, mixed, digest, hashed, Kept}
use Rattle.sorting.specs.Keys.{Keyed, Put}
use Rattle.sorting.proofs.KeyOrder.{same_words_lem}
use Rattle.std.specs.Prelude.{Option, None, Some}
use Rattle.soundness_unique.specs.Naming.{name_key_size, name_key_begin, order_key_size, order_key_begin, group_of, is_inside, name_words_at, name_hash, name_key, order_hash, order_key, KeysPut, live_together, keys_apart, names_apart_at, orders_apart_at, Living, keyed_at, NamesLiving}
use Rattle.soundness_unique.specs.Comparable.{Named}
use Rattle.soundness_unique.proofs.LeftPlaces.{left_below, left_apart}

-- the word of a group
pub group_inside : {g : Option ℕ} {word size : ℕ} → g ≡ Some word → is_inside g size ≡ true → word < size
group_inside {word = word} {size = size} e h = ltb-true word size (rw e at h)

pub pairwise_both : {A : Type 0} (r s : A → A → Bool) (xs : List A) → pairwise (λ a b. r a b && s a b) xs ≡ (pairwise r xs && pairwise s xs)
unfolding pairwise
pairwise_both r s [] = refl
pairwise_both r s (x ∷ xs) = rw (← all_both (r x) (s x) xs, pairwise_both r s xs) (swap (all (r x) xs) (all (s x) xs) (pairwise r xs) (pairwise s xs))
  where
    swap : (a b c d : Bool) → ((a && b) && (c && d)) ≡ ((a && c) && (b && d))
    swap true true c d = refl
    swap true false true d = refl
    swap true false false d = refl
    swap false b c d = refl

-- the same but for the begin, or live apart
apart_of : (a b c : Bool) → (not (a && c) || not b) ≡ (not a || not b || not c)
apart_of true true true = refl
apart_of true true false = refl
apart_of true false true = refl
apart_of true false false = refl
apart_of false b c = refl

-- the digest of a group and the words of a name
pub name_digest : (size : ℕ) (group : Option ℕ) (run names : List ℕ) (i : ℕ) {g x₀ x₁ x₂ x₃ a b c d e : ℕ} → g ≡ group_of group size run i
    → x₀ ≡ name_word (name_at names i) 0 → x₁ ≡ name_word (name_at names i) 1 → x₂ ≡ name_word (name_at names i) 2 → x₃ ≡ name_word (name_at names i) 3
    → a ≡ (mixed First 0 + g) % 2 ^ 64 → b ≡ (mixed First a + x₀) % 2 ^ 64 → c ≡ (mixed First b + x₁) % 2 ^ 64 → d ≡ (mixed First c + x₂) % 2 ^ 64
    → e ≡ (mixed First d + x₃) % 2 ^ 64 → e ≡ digest First 0 (name_words_at size group run names i)
unfolding digest range
name_digest size group run names i u o p q r j k l m n = rw (n, m, l, k, j, u, o, p, q, r) refl

-- the words of a key
pub name_key_lem : (size : ℕ) (group : Option ℕ) (begin : ℕ) (run names : List ℕ) (i : ℕ) {g x₀ x₁ x₂ x₃ b : ℕ} → g ≡ group_of group size run i
    → x₀ ≡ name_word (name_at names i) 0 → x₁ ≡ name_word (name_at names i) 1 → x₂ ≡ name_word (name_at names i) 2 → x₃ ≡ name_word (name_at names i) 3 → b ≡ field size begin run i
    → (g ∷ (x₀ ∷ (x₁ ∷ (x₂ ∷ (x₃ ∷ (b ∷ [])))))) ≡ name_key size group begin run names i
unfolding range
name_key_lem size group begin run names i o p q r s t = rw (o, p, q, r, s, t) refl

-- a key has so many words
pub name_key_length : (size : ℕ) (group : Option ℕ) (begin : ℕ) (run names : List ℕ) (i : ℕ) → length (name_key size group begin run names i) ≡ name_key_size
unfolding range
name_key_length size group begin run names i = refl

-- of as many records as there are places
pub names_as_long : {size : ℕ} {group : Option ℕ} {begin : ℕ} {run names : List ℕ} {l n : ℕ} → l ≡ n → NamesLiving size group begin run names n → NamesLiving size group begin run names l
names_as_long e h = rw e h

pub pairs_as_long : (s : ℕ → ℕ → Bool) {l n : ℕ} {r : Bool} → l ≡ n → r ≡ pairwise s (range 0 l) → r ≡ pairwise s (range 0 n)
pairs_as_long s e f = f ∙ ap (λ (l : ℕ). pairwise s (range 0 l)) e

-- two records of one group and one name have one hash
hash_tells : (size : ℕ) (group : Option ℕ) (begin : ℕ) (run names : List ℕ) (i j : ℕ) → (name_hash size group run names i ≡ name_hash size group run names j → ⊥)
    → names_apart_at size group begin run names i j ≡ true
unfolding same_name
hash_tells size group begin run names i j d =
    let g = eqb (group_of group size run i) (group_of group size run j) in
    let s = same_name (name_at names i) (name_at names j) in
    sym (apart_of g (live_together size begin run i j) s)
    ∙ if (g && s)
    (λ t. let b = both g s t in
    absurd (d (ap₂ (λ (k : ℕ) (xs : List ℕ). hashed First (digest First 0 (k ∷ name_words xs))) (eqb-true _ _ b.0) (same_words_lem (name_at names i) (name_at names j) b.1))))
    (λ t. rw t refl)

-- keys put for places left by hashes decide names
module _ {size : ℕ} {group : Option ℕ} {begin : ℕ} {run names : List ℕ} {n : ℕ} (h : NamesLiving size group begin run names n) {left keys : List ℕ}
    (k : Kept (name_hash size group run names) (range 0 n) left) (p : KeysPut (name_key size group begin run names) name_key_size left keys) where
  name_words_lem : (i : ℕ) → In i left → prefix_at name_key_begin name_key_size keys i ≡ name_words_at size group run names i
  unfolding range
  name_words_lem i m = ap (take name_key_begin) (p.put i m)

  name_begin : (i : ℕ) → In i left → field name_key_size name_key_begin keys i ≡ field size begin run i
  unfolding range
  name_begin i m = ap (λ (ws : List ℕ). get_or ws name_key_begin 0) (p.put i m)

  same_name_lem : (i j : ℕ) → In i left → In j left
      → same_prefix name_key_begin name_key_size keys i j ≡ (eqb (group_of group size run i) (group_of group size run j) && same_name (name_at names i) (name_at names j))
  unfolding agree
  same_name_lem i j a b =
      rw (name_words_lem i a, name_words_lem j b, words_agree (name_at names i) (name_at names j) (h.named i (left_below n k i a)) (h.named j (left_below n k j b))) refl

  pub names_are : {r : Bool}
      → ((m : ℕ) → Living size begin run m → all (keyed_at name_key_begin keys size begin run m) left ≡ true → r ≡ pairwise (keys_apart name_key_begin keys size begin run) left)
      → r ≡ pairwise (names_apart_at size group begin run names) (range 0 n)
  names_are f =
      left_apart n k (names_apart_at size group begin run names) name_key_begin size begin run keys h.living (hash_tells size group begin run names) name_begin
      (λ i j a b. rw (same_name_lem i j a b)
      (apart_of (eqb (group_of group size run i) (group_of group size run j)) (live_together size begin run i j) (same_name (name_at names i) (name_at names j)))) f

-- keys in a run that is as long as it was
pub keyed_still : {size : ℕ} {old new places : List ℕ} → length new ≡ length old → Keyed size old places → Keyed size new places
keyed_still e k = record { keyed = rw e k.keyed }

-- a word of each of three for an order
pub order_keys : (run : List ℕ) {left k₀ k₁ k₂ k₃ : List ℕ} → Put (field column_size column_table_word run) order_key_size 0 left k₀ k₁
    → Put (field column_size column_order_word run) order_key_size 1 left k₁ k₂ → Put (field column_size column_begin_word run) order_key_size order_key_begin left k₂ k₃
    → KeysPut (order_key run) order_key_size left k₃
unfolding range
order_keys run p q r = record {
  put = λ i m. rw (
    r.others i 0 (omega arith) (λ (e : 0 ≡ order_key_begin). omega arith) ∙ (q.others i 0 (omega arith) (λ (e : 0 ≡ 1). omega arith) ∙ p.put i m),
    r.others i 1 (omega arith) (λ (e : 1 ≡ order_key_begin). omega arith) ∙ q.put i m,
    r.put i m,
  ) refl;
}

-- of as many columns as there are places
pub columns_as_long : {run : List ℕ} {l n : ℕ} → l ≡ n → Living column_size column_begin_word run n → Living column_size column_begin_word run l
columns_as_long e h = rw e h

-- two columns of one table and one order have one hash
order_tells : (run : List ℕ) (i j : ℕ) → (order_hash run i ≡ order_hash run j → ⊥) → orders_apart_at run i j ≡ true
order_tells run i j d =
    let g = eqb (field column_size column_table_word run i) (field column_size column_table_word run j) in
    let s = eqb (field column_size column_order_word run i) (field column_size column_order_word run j) in
    sym (apart_of g (live_together column_size column_begin_word run i j) s)
    ∙ if (g && s)
    (λ t. let b = both g s t in absurd (d (ap₂ (λ (k l : ℕ). hashed First (digest First 0 (k ∷ (l ∷ [])))) (eqb-true _ _ b.0) (eqb-true _ _ b.1))))
    (λ t. rw t refl)

-- keys put for places left by hashes decide orders
module _ {run : List ℕ} {n : ℕ} (h : Living column_size column_begin_word run n) {left keys : List ℕ} (k : Kept (order_hash run) (range 0 n) left)
    (p : KeysPut (order_key run) order_key_size left keys) where
  order_words : (i : ℕ) → In i left → prefix_at order_key_begin order_key_size keys i ≡ field column_size column_table_word run i ∷ (field column_size column_order_word run i ∷ [])
  unfolding range
  order_words i m = ap (take order_key_begin) (p.put i m)

  order_begin : (i : ℕ) → In i left → field order_key_size order_key_begin keys i ≡ field column_size column_begin_word run i
  unfolding range
  order_begin i m = ap (λ (ws : List ℕ). get_or ws order_key_begin 0) (p.put i m)

  same_order : (i j : ℕ) → In i left → In j left
      → same_prefix order_key_begin order_key_size keys i j
      ≡ (eqb (field column_size column_table_word run i) (field column_size column_table_word run j) && eqb (field column_size column_order_word run i) (field column_size column_order_word run j))
  unfolding agree
  same_order i j a b = rw (order_words i a, order_words j b, and-true) refl

  pub orders_are : {r : Bool}
      → ((m : ℕ) → Living column_size column_begin_word run m → all (keyed_at order_key_begin keys column_size column_begin_word run m) left ≡ true
      → r ≡ pairwise (keys_apart order_key_begin keys column_size column_begin_word run) left)
      → r ≡ pairwise (orders_apart_at run) (range 0 n)
  orders_are f =
      left_apart n k (orders_apart_at run) order_key_begin column_size column_begin_word run keys h (order_tells run) order_begin
      (λ i j a b. rw (same_order i j a b)
      (apart_of (eqb (field column_size column_table_word run i) (field column_size column_table_word run j)) (live_together column_size column_begin_word run i j)
      (eqb (field column_size column_order_word run i) (field column_size column_order_word run j)))) f

-- what the tables with names come to

module _ {schemas schema_names tables table_names columns column_names : List ℕ} {counts : Counts} (h : Named schemas schema_names tables table_names columns column_names counts) where
  pub schemas_living : NamesLiving schema_size None schema_begin_word schemas schema_names counts.schemas
  unfolding field
  schemas_living = record {
    living = record { lent = h.schemas_lent; inside = omega arith; lives = λ i l. ltb-true _ _ (all-at (schema_at schemas schema_names) _ counts.schemas i h.schemas_live l) };
    grouped = refl;
    names_lent = h.schema_names_lent;
    named = λ i l. all-at (schema_at schemas schema_names) _ counts.schemas i h.schemas_named l;
  }

  pub tables_living : NamesLiving table_size (Some table_schema_word) table_begin_word tables table_names counts.tables
  unfolding field
  tables_living = record {
    living = record { lent = h.tables_lent; inside = omega arith; lives = λ i l. ltb-true _ _ (all-at (table_at tables table_names) _ counts.tables i h.tables_live l) };
    grouped = refl;
    names_lent = h.table_names_lent;
    named = λ i l. all-at (table_at tables table_names) _ counts.tables i h.tables_named l;
  }

  pub columns_living : NamesLiving column_size (Some column_table_word) column_begin_word columns column_names counts.columns
  unfolding field
  columns_living = record {
    living = record { lent = h.columns_lent; inside = omega arith; lives = λ i l. ltb-true _ _ (all-at (column_at columns column_names) _ counts.columns i h.columns_live l) };
    grouped = refl;
    names_lent = h.column_names_lent;
    named = λ i l. all-at (column_at columns column_names) _ counts.columns i h.columns_named l;
  }

module _ (run names : List ℕ) (n : ℕ) where
  pub schemas_are : pairwise (names_apart_at schema_size None schema_begin_word run names) (range 0 n) ≡ pairwise schemas_apart (schemas_in run names n)
  unfolding field overlap schemas_apart
  schemas_are = sym (pairwise_map schemas_apart (schema_at run names) (range 0 n))

  pub tables_are : pairwise (names_apart_at table_size (Some table_schema_word) table_begin_word run names) (range 0 n) ≡ pairwise tables_apart (tables_in run names n)
  unfolding field overlap tables_apart
  tables_are = sym (pairwise_map tables_apart (table_at run names) (range 0 n))

  both_differ : (x s q : Bool) → ((x || s) && (x || q)) ≡ (x || (s && q))
  both_differ true s q = refl
  both_differ false s q = refl

  pub columns_are : (pairwise (names_apart_at column_size (Some column_table_word) column_begin_word run names) (range 0 n) && pairwise (orders_apart_at run) (range 0 n))
      ≡ pairwise columns_apart (columns_in run names n)
  unfolding field overlap columns_apart
  columns_are =
      sym (pairwise_both (names_apart_at column_size (Some column_table_word) column_begin_word run names) (orders_apart_at run) (range 0 n))
      ∙ (pairwise_ext (λ i j. names_apart_at column_size (Some column_table_word) column_begin_word run names i j && orders_apart_at run i j) (λ i j. columns_apart (column_at run names i) (column_at run names j)) (range 0 n)
      (λ i j _ _. both_differ (not (eqb (field column_size column_table_word run i) (field column_size column_table_word run j)) || not (live_together column_size column_begin_word run i j))
      (not (same_name (name_at names i) (name_at names j))) (not (eqb (field column_size column_order_word run i) (field column_size column_order_word run j))))
      ∙ sym (pairwise_map columns_apart (column_at run names) (range 0 n)))
