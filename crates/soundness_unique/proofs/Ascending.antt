-- Columns whose tables, or tables and orders, ascend from record to record: no two share them, so all are apart.
use Prim.Native.Nat.{ℕ, ◌<◌}
use mathlib.Core.Path.{◌≡◌, sym, ap, ◌∙◌}
use mathlib.Core.Bool.{Bool, true, not, ◌||◌}
use mathlib.Core.List.{List, map}
use mathlib.Core.Logic.{◌⊎◌, inl, inr}
use native.Mathlib.Omega.{arith}
use lib.Dec.{ltb, eqb}
use borrow.Author.Tests.{ltb-true, lt-ltb, ne_eqb}
use Rattle.lists.specs.Lists.{range, pairwise, chained, before}
use Rattle.lists.specs.Runs.{field, fields, pair_at, pairs}
use Rattle.lists.proofs.Tests.{Reflects, either, or_right, reflects_ltb, reflects_eqb, reflects_and, reflects_or}
use Rattle.lists.proofs.Orders.{chained_pairwise, pairwise_as}
use Rattle.lists.proofs.Selections.{pairwise_map}
use Rattle.layout.specs.Fields.{column_size, column_table_word, column_order_word, column_begin_word}
use Rattle.std.specs.Prelude.{Some}
use Rattle.soundness_unique.specs.Naming.{live_together, names_apart_at, orders_apart_at}

-- what holds of any two places in order, by what is read there, holds of every two, if those that follow each other are in order
in_order_all : {A : Type 0} (r : A → A → Bool) (f : ℕ → A) (s : ℕ → ℕ → Bool) (n : ℕ) → ((a b c : A) → r a b ≡ true → r b c ≡ true → r a c ≡ true)
    → ((i j : ℕ) → r (f i) (f j) ≡ true → s i j ≡ true) → chained r (map f (range 0 n)) ≡ true → pairwise s (range 0 n) ≡ true
in_order_all r f s n t h e =
    pairwise_as (λ i j. r (f i) (f j)) s h (range 0 n) (sym (pairwise_map r f (range 0 n)) ∙ chained_pairwise r (map f (range 0 n)) t e)

-- where tables ascend, no two columns are of one table
pub tables_ascend : (run names : List ℕ) (n : ℕ) → chained ltb (fields column_size column_table_word run n) ≡ true
    → pairwise (names_apart_at column_size (Some column_table_word) column_begin_word run names) (range 0 n) ≡ true
tables_ascend run names n e =
    let f = field column_size column_table_word run in
    in_order_all ltb f (names_apart_at column_size (Some column_table_word) column_begin_word run names) n
    (λ a b c s t. lt-ltb a c (omega (arith, ltb-true a b s, ltb-true b c t)))
    (λ i j h. rw (ne_eqb (f i) (f j) (λ (q : f i ≡ f j). omega (arith, ltb-true (f i) (f j) h)))) e

before_told : (a b : ℕ × ℕ) → Reflects (before a b) ((a.0 < b.0) ⊎ ((a.0 ≡ b.0) × (a.1 < b.1)))
before_told a b = reflects_or (reflects_ltb a.0 b.0) (reflects_and (reflects_eqb a.0 b.0) (reflects_ltb a.1 b.1))

before_trans : (a b c : ℕ × ℕ) → before a b ≡ true → before b c ≡ true → before a c ≡ true
before_trans a b c s t =
    (before_told a c).from (either ((before_told a b).to s)
    (λ p. either ((before_told b c).to t) (λ q. inl (omega arith)) (λ q. inl (omega (arith, q.0))))
    (λ p. either ((before_told b c).to t) (λ q. inl (omega (arith, p.0))) (λ q. inr (p.0 ∙ q.0, omega (arith, p.1, q.1)))))

-- where tables and orders ascend, no two columns share both
pub orders_ascend : (run : List ℕ) (n : ℕ) → chained before (pairs column_size column_table_word column_order_word run n) ≡ true → pairwise (orders_apart_at run) (range 0 n) ≡ true
orders_ascend run n e = in_order_all before pair (orders_apart_at run) n before_trans (λ i j h. either ((before_told (pair i) (pair j)).to h) (other_table i j) (λ q. other_order i j q.1)) e
  where
    pair : ℕ → ℕ × ℕ
    pair = pair_at column_size column_table_word column_order_word run

    other_table : (i j : ℕ) → (pair i).0 < (pair j).0 → orders_apart_at run i j ≡ true
    other_table i j h = rw (ne_eqb (pair i).0 (pair j).0 (λ (q : (pair i).0 ≡ (pair j).0). omega arith))

    other_order : (i j : ℕ) → (pair i).1 < (pair j).1 → orders_apart_at run i j ≡ true
    other_order i j h =
        or_right (not (eqb (pair i).0 (pair j).0) || not (live_together column_size column_begin_word run i j)) _
        (ap not (ne_eqb (pair i).1 (pair j).1 (λ (q : (pair i).1 ≡ (pair j).1). omega arith)))
