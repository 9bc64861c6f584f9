-- The tables of a schema that bear a name: the first one has its place, and is the answer.
use Rattle.std.specs.Prelude.{Option, Some}
use Prim.Native.Nat.{ℕ, zero, suc, ◌<◌}
use mathlib.Core.Path.{◌≡◌, sym, ap, ◌∙◌}
use mathlib.Core.Bool.{Bool, true, false, ◌&&◌}
use mathlib.Core.List.{List, [], ◌∷◌, map}
use native.Mathlib.Omega.{arith}
use lib.ListN.{take}
use Rattle.lists.specs.Lists.{range, non_empty, filter, place}
use Rattle.lists.proofs.Tests.{if}
use Rattle.lists.proofs.Places.{is_at, any_place, found_tells}
use Rattle.lists.proofs.Selections.{any_both, filter_both}
use Rattle.layout.specs.Catalog.{Versioned, Table}
use Rattle.layout.specs.Words.{table_at, tables_in}
use Rattle.ducklake.specs.Liveness.{tables_at}
use Rattle.ducklake.specs.Refusals.{accepted, not_retained, not_live, refuse_unless, first}
use Rattle.ducklake.specs.Readings.{tables_named}
use Rattle.listings.specs.Tests.{is_named, place_of_named}

-- the first element that passes, where it stands
first_passing : {A : Type 0} (f : ℕ → A) (p : A → Bool) (g : A → ℕ) (i n j : ℕ) → place p i (map f (range i n)) ≡ Some j
    → take 1 (map g (filter p (map f (range i n)))) ≡ g (f j) ∷ []
unfolding place range filter
first_passing f p g i zero j e = let z : ◌≡◌ {A = ℕ} 0 1 = cc in absurd (omega arith)
first_passing f p g i (suc n) j e =
    if (p (f i))
    (λ b. let q : i ≡ j = cc (sym (rw b at e)) in rw b (ap (λ k. g (f k) ∷ []) q))
    (λ b. rw b (first_passing f p g (suc i) n j (rw b at e)))

module _ (ts : List (Versioned Table)) (s schema : ℕ) (name : List ℕ) where
  pub named_all : tables_named ts s schema name ≡ filter (is_named schema s name) ts
  unfolding tables_named tables_at
  named_all = filter_both _ _ ts

  pub named_found : {r : Option ℕ} → r ≡ place_of_named ts s schema name → is_at r ≡ non_empty (tables_named ts s schema name)
  unfolding place_of_named
  named_found e = sym (ap non_empty named_all ∙ (any_both (λ x. true) (is_named schema s name) ts ∙ (any_place (is_named schema s name) 0 ts ∙ ap is_at (sym e))))

pub named_first : (run names : List ℕ) (n s schema : ℕ) (name : List ℕ) {r : Option ℕ} {i : ℕ} → r ≡ place_of_named (tables_in run names n) s schema name → r ≡ Some i
    → take 1 (map (λ t. t.id) (tables_named (tables_in run names n) s schema name)) ≡ (table_at run names i).id ∷ []
unfolding place_of_named
named_first run names n s schema name e q =
    ap (λ ts. take 1 (map (λ t. t.id) ts)) (named_all (tables_in run names n) s schema name) ∙ first_passing (table_at run names) (is_named schema s name) (λ t. t.id) 0 n _ (sym e ∙ q)

pub named_inside : (run names : List ℕ) (n s schema : ℕ) (name : List ℕ) {r : Option ℕ} {i : ℕ} → r ≡ place_of_named (tables_in run names n) s schema name → r ≡ Some i → i < n
unfolding place_of_named
named_inside run names n s schema name e q = (found_tells (table_at run names) (is_named schema s name) n e q).0

-- The refusals of a reading by name, where the last test is of two: the name's form, and whether a table bears it

pub named_refused : (there live formed named : Bool) {n : ℕ} → n ≡ first ((not_retained, there) ∷ (not_live, live) ∷ (not_live, formed) ∷ []) accepted → (n ≡ 0 → ⊥)
    → n ≡ first ((not_retained, there) ∷ (not_live, live) ∷ (not_live, (formed && named)) ∷ []) accepted
named_refused false live formed named e z = e
named_refused true false formed named e z = e
named_refused true true false named e z = e
named_refused true true true named e z = absurd (z e)

pub named_passed : (there live formed named : Bool) {n : ℕ} → 0 ≡ first ((not_retained, there) ∷ (not_live, live) ∷ (not_live, formed) ∷ []) accepted
    → n ≡ refuse_unless not_live named accepted → n ≡ first ((not_retained, there) ∷ (not_live, live) ∷ (not_live, (formed && named)) ∷ []) accepted
named_passed false live formed named z e = absurd (omega arith)
named_passed true false formed named z e = absurd (omega arith)
named_passed true true false named z e = absurd (omega arith)
named_passed true true true named z e = e
