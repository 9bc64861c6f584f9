-- `read_schemas` meets its contract: the loop tests each schema as the definition does, and writes the ids of those that pass one behind the other: there is room for all of them.
use Prim.Native.Nat.{◌<◌}
use mathlib.Core.Path.{refl, sym, ap, ◌∙◌}
use mathlib.Core.List.{[]}
use native.Mathlib.Omega.{arith}
use lib.ListN.{length, length-map}
use Rattle.lists.proofs.Loops.{counted_start, counted_pass, counted_fail, counted_room, sent_start, sent_pass, sent_fail, sent_end}
use Rattle.readings.proofs.AnswerAreas.{answered_short, answered_whole}
use Rattle.ducklake.specs.Liveness.{schemas_at}
use Rattle.listings.proofs.Blocks.{schema_live, schemas_counted}
use Rattle.listings.proofs.schemas.read_schemas.Goals as goal
use Rattle.listings.proofs.schemas.read_schemas.Goals.{then-is_live_at, else-is_live_at}

pub returns-then-area-length : goal.returns-then-area-length
returns-then-area-length c names = answered_short _ _ (rw length-map (c.count_live-length.ensures ∙ schemas_counted _ names _ _)) c.if-area-length.true

pub loop-i-init : goal.loop-i-init
unfolding schemas_at
loop-i-init c = (omega arith, (λ names. counted_start _ _ _), λ names. refl)

pub bounds-area-k : goal.bounds-area-k
bounds-area-k c =
    let h = c.loop-i in
    let a = c.args in
    omega (arith, c.count_live-length.ensures, schemas_counted a.schemas.now [] a.n a.s.0, c.if-area-length.false, counted_room _ _ _ _ _ _ (h.invariant.1 []) c.loop-i-test.true (schema_live _ [] _ _ c.is_live_at.ensures ∙ c.if-is_live_at.true))

pub loop-i-preserved : goal.loop-i-preserved
loop-i-preserved c =
    let h = c.loop-i.invariant in
    let t = c.loop-i-test.true in
    elim c.if-is_live_at.branch [
      | then-is_live_at w ↦
          let room : c.loop-i.k < length c.loop-i.area =
          omega (arith, c.loop-i.auto.area, c.count_live-length.ensures, schemas_counted c.args.schemas.now [] c.args.n c.args.s.0, c.if-area-length.false, counted_room _ _ _ _ _ _ (h.1 []) t (schema_live _ [] _ _ c.is_live_at.ensures ∙ w.if-is_live_at.true)) in
          rw (w.area-is, w.k-is) (
            omega arith,
            (λ names. h.1 names ∙ counted_pass _ _ _ _ _ t (schema_live _ names _ _ c.is_live_at.ensures ∙ w.if-is_live_at.true)),
            λ names. h.2 names ∙ sent_pass _ _ _ _ _ _ _ _ room t (schema_live _ names _ _ c.is_live_at.ensures ∙ w.if-is_live_at.true) (ap (λ k. k.0) w.schema_id.ensures),
          )
      | else-is_live_at w ↦ rw (w.area-is, w.k-is) (
        omega arith,
        (λ names. h.1 names ∙ counted_fail _ _ _ _ _ t (schema_live _ names _ _ c.is_live_at.ensures ∙ w.if-is_live_at.false)),
        λ names. h.2 names ∙ sent_fail _ _ _ _ _ _ _ t (schema_live _ names _ _ c.is_live_at.ensures ∙ w.if-is_live_at.false),
      )
    ]

pub returns : goal.returns
unfolding schemas_at
returns c names =
    let h = c.loop-i in
    answered_whole _ _ (rw length-map (c.count_live-length.ensures ∙ schemas_counted _ names _ _)) c.if-area-length.false (sym (sent_start _ _ _ _ _ ∙ (h.invariant.2 names ∙ sent_end _ _ _ _ _ _ _ c.loop-i-test.false)))
