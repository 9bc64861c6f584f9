-- `shows` meets its contract: the ids are the words one by one.
use Prim.Native.Nat.{ℕ}
use mathlib.Core.Path.{◌≡◌, refl, sym, ap, ◌∙◌}
use mathlib.Core.Bool.{Bool, true, not}
use mathlib.Core.List.{List, [], ◌∷◌}
use native.Mathlib.Omega.{arith}
use borrow.Author.Tests.{eqb-true}
use lib.Dec.{ltb, eqb}
use lib.ListN.{length}
use Rattle.lists.specs.Lists.{any, chained}
use Rattle.lists.proofs.Layouts.{fields_words}
use Rattle.layout.specs.Catalog.{Versioned}
use Rattle.lookup.specs.Versions.{with_life, live_among}
use Rattle.expiry.proofs.remaining.Remaining.shows.Goals as goal

-- at none of no ids
none : {A : Type 0} (ids : List ℕ) (v : Versioned A) {r : Bool} → r ≡ eqb (length ids) 0 → r ≡ true → not r ≡ live_among ids v
unfolding any
none [] v e z = ap not z
none (x ∷ xs) v e z = absurd (omega (arith, eqb-true (length (x ∷ xs)) 0 (sym e ∙ z)))

pub is_live_among-requires : goal.is_live_among-requires
is_live_among-requires c =
    let s = c.args.self in
    record { lent = omega arith; inside = omega arith; ascending = ap (chained ltb) (fields_words s.ids.now _ refl) ∙ s.ascending }

pub returns-then-not-is_empty : goal.returns-then-not-is_empty
returns-then-not-is_empty c = c.is_live_among.ensures ∙ ap (λ xs. live_among xs (with_life c.args.l)) (fields_words c.args.self.ids.now _ refl)

pub returns-else-not-is_empty : goal.returns-else-not-is_empty
returns-else-not-is_empty c = none c.args.self.ids.now _ c.is_empty.ensures c.if-not-is_empty.false
