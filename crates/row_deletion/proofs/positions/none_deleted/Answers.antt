-- `none_deleted` meets its contract: where no place is found, none is deleted.
use Prim.Native.Nat.{ℕ}
use mathlib.Core.Path.{◌≡◌, sym, ◌∙◌}
use mathlib.Core.Bool.{Bool, not}
use borrow.Author.Tests.{not-true, not-false}
use Rattle.std.specs.Prelude.{None, Option, Some}
use Rattle.std.specs.Option.{is_some}
use Rattle.lists.proofs.Places.{is_at}
use Rattle.row_deletion.proofs.Judges.{none_where}
use Rattle.row_deletion.proofs.positions.none_deleted.Goals as goal

none_as : (r : Option ℕ) {b : Bool} → is_some r ≡ not b → b ≡ not (is_at r)
none_as (Some i) {b} e = not-true b (sym e)
none_as None {b} e = not-false b (sym e)

pub returns : goal.returns
returns c d p = none_as _ c.is_none.ensures ∙ none_where _ _ (c.first_deleted.ensures d p)
