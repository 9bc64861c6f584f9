-- Names that don't clash differ: what is asked of a new name is at least what soundness asks.
use Prim.Native.Nat.{ℕ}
use mathlib.Core.Path.{◌≡◌}
use mathlib.Core.Bool.{true, not}
use mathlib.Core.List.{List}
use borrow.Author.Tests.{not-true}
use Rattle.lists.proofs.Tests.{clash}
use Rattle.layout.specs.Names.{same_name}
use Rattle.ducklake.specs.Arguments.{clashes}

pub same_clashes : (a b : List ℕ) → same_name a b ≡ true → clashes a b ≡ true
unfolding clashes
same_clashes a b h = h

pub unlike : (a b : List ℕ) → not (clashes a b) ≡ true → same_name a b ≡ true → ⊥
unlike a b h e = clash (same_clashes a b e) (not-true (clashes a b) h)
