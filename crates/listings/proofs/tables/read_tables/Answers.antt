-- `read_tables` meets its contract: the loop tests each table as the definition does, and writes the ids of those that pass one behind the other: there is room for all of them.
use Prim.Native.Nat.{◌<◌}
use mathlib.Core.Path.{refl, sym, ap, ◌∙◌}
use mathlib.Core.List.{[]}
use native.Mathlib.Omega.{arith}
use lib.ListN.{length, length-map}
use Rattle.lists.proofs.Loops.{counted_start, counted_pass, counted_fail, counted_room, sent_start, sent_pass, sent_fail, sent_end}
use Rattle.readings.proofs.AnswerAreas.{answered_short, answered_whole}
use Rattle.ducklake.specs.Liveness.{tables_at}
use Rattle.listings.proofs.tables.read_tables.Goals as goal
use Rattle.listings.proofs.tables.read_tables.Goals.{then-is_in_schema, else-is_in_schema}

pub returns-then-area-length : goal.returns-then-area-length
returns-then-area-length c names = answered_short _ _ (rw length-map (c.count_tables-length.ensures names)) c.if-area-length.true

pub loop-i-init : goal.loop-i-init
unfolding tables_at
loop-i-init c = (omega arith, (λ names. counted_start _ _ _), λ names. refl)

pub bounds-area-k : goal.bounds-area-k
bounds-area-k c =
    let h = c.loop-i in
    omega (arith, c.count_tables-length.ensures [], c.if-area-length.false, counted_room _ _ _ _ _ _ (h.invariant.1 []) c.loop-i-test.true (sym (c.is_in_schema.ensures []) ∙ c.if-is_in_schema.true))

pub loop-i-preserved : goal.loop-i-preserved
loop-i-preserved c =
    let h = c.loop-i.invariant in
    let t = c.loop-i-test.true in
    elim c.if-is_in_schema.branch [
      | then-is_in_schema w ↦
          let room : c.loop-i.k < length c.loop-i.area =
          omega (arith, c.loop-i.auto.area, c.count_tables-length.ensures [], c.if-area-length.false, counted_room _ _ _ _ _ _ (h.1 []) t (sym (c.is_in_schema.ensures []) ∙ w.if-is_in_schema.true)) in
          rw (w.area-is, w.k-is) (
            omega arith,
            (λ names. h.1 names ∙ counted_pass _ _ _ _ _ t (sym (c.is_in_schema.ensures names) ∙ w.if-is_in_schema.true)),
            λ names. h.2 names ∙ sent_pass _ _ _ _ _ _ _ _ room t (sym (c.is_in_schema.ensures names) ∙ w.if-is_in_schema.true) (ap (λ k. k.0) w.table_id.ensures),
          )
      | else-is_in_schema w ↦ rw (w.area-is, w.k-is) (
        omega arith,
        (λ names. h.1 names ∙ counted_fail _ _ _ _ _ t (sym (c.is_in_schema.ensures names) ∙ w.if-is_in_schema.false)),
        λ names. h.2 names ∙ sent_fail _ _ _ _ _ _ _ t (sym (c.is_in_schema.ensures names) ∙ w.if-is_in_schema.false),
      )
    ]

pub returns : goal.returns
unfolding tables_at
returns c names =
    let h = c.loop-i in
    answered_whole _ _ (rw length-map (c.count_tables-length.ensures names)) c.if-area-length.false (sym (sent_start _ _ _ _ _ ∙ (h.invariant.2 names ∙ sent_end _ _ _ _ _ _ _ c.loop-i-test.false)))
