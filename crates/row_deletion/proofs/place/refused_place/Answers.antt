-- `refused_place` meets its contract: with another number than 17 it is 0, with 17 the place that is found.
use Prim.Native.Nat.{ℕ}
use mathlib.Core.Path.{◌≡◌, refl, sym, ap, ◌∙◌}
use mathlib.Core.Bool.{true}
use mathlib.Core.List.{List}
use lib.Dec.{ltb}
use borrow.Author.Tests.{eq-eqb, ne_eqb}
use Rattle.std.specs.Prelude.{Option}
use Rattle.lists.specs.Lists.{chained, has, place}
use Rattle.layout.specs.Catalog.{Versioned, Snapshot, DeleteFile}
use Rattle.ducklake.specs.Liveness.{deleted_at}
use Rattle.ducklake.specs.Refusals.{already_deleted}
use Rattle.row_deletion.specs.Deleted.{place_or_zero, refused_place}
use Rattle.row_deletion.proofs.place.refused_place.Goals as goal

other : (number : ℕ) (old new : List ℕ) → (number ≡ already_deleted → ⊥) → 0 ≡ refused_place number old new
unfolding refused_place
other number old new h = sym (rw (ne_eqb number already_deleted h) refl)

offence : (number : ℕ) (ds : List (Versioned DeleteFile)) (file : ℕ) (new : List ℕ) {s t : Snapshot} {old : List ℕ} {r f : Option ℕ} → number ≡ already_deleted → s ≡ t → old ≡ deleted_at ds s.id file
    → chained ltb (deleted_at ds s.id file) ≡ true → chained ltb new ≡ true → (chained ltb old ≡ true → chained ltb new ≡ true → r ≡ place (λ p. has p old) 0 new) → r ≡ f
    → place_or_zero f ≡ refused_place number (deleted_at ds t.id file) new
unfolding refused_place
offence number ds file new h e q o n k g = sym (rw (eq-eqb number already_deleted h, ← e, ← q, ← (k (ap (chained ltb) q ∙ o) n), g) refl)

pub returns-then-number-ne-ALREADY_DELETED : goal.returns-then-number-ne-ALREADY_DELETED
returns-then-number-ne-ALREADY_DELETED c = other _ _ _ c.if-number-ne-ALREADY_DELETED.true

pub latest_snapshot-latest-requires : goal.latest_snapshot-latest-requires
latest_snapshot-latest-requires c =
    let l = (c.requires c.if-number-ne-ALREADY_DELETED.false).latest in
    (l.held, l.some)

pub positions_deleted-old-requires : goal.positions_deleted-old-requires
positions_deleted-old-requires c =
    (c.requires c.if-number-ne-ALREADY_DELETED.false).deletes

pub returns-in-Some : goal.returns-in-Some
returns-in-Some c =
    -- with 17, whatever is found
    let p = c.requires c.if-number-ne-ALREADY_DELETED.false in
    offence _ _ _ _ c.if-number-ne-ALREADY_DELETED.false c.latest_snapshot-latest.ensures c.positions_deleted-old.ensures (p.deletes.ascending _ _) p.ascending c.first_deleted-found.ensures c.in-Some.is

pub returns-in-None : goal.returns-in-None
returns-in-None c =
    -- with 17, whatever is found
    let p = c.requires c.if-number-ne-ALREADY_DELETED.false in
    offence _ _ _ _ c.if-number-ne-ALREADY_DELETED.false c.latest_snapshot-latest.ensures c.positions_deleted-old.ensures (p.deletes.ascending _ _) p.ascending c.first_deleted-found.ensures c.in-None.is
