-- `set_where` meets its contract: a turn sets the word that the definition sets in the record, or leaves the record as the definition does.
use Rattle.std.proofs.Common.{length, sym, refl, ap, ◌∙◌, arith, length-set}
use Rattle.lists.proofs.Updates.{changing_start, changing_end, set_next, keep_next}
use Rattle.runs.proofs.update.set_where.Goals.{then-x-k, else-x-k}
use Rattle.runs.proofs.update.set_where.Goals as goal

pub loop-i-init : goal.loop-i-init
loop-i-init c = (refl, changing_start _ _ _ _)

pub loop-i-preserved : goal.loop-i-preserved
loop-i-preserved c =
    let l = c.loop-i.invariant in
    let p = c.requires in
    elim c.if-x-k.branch [
      | then-x-k w ↦ rw w.w-is (
        ap length w.set_field.ensures ∙ simp length-set l.0,
        l.1 ∙ set_next _ _ _ _ _ _ _ p.1 p.2 _ _ c.loop-i-test.true (omega (arith, p.0, l.0)) _
            c.field_at-x.ensures c.field_at-y.ensures w.if-x-k.true w.set_field.ensures,
      )
      | else-x-k w ↦ rw w.w-is (
        l.0,
        l.1 ∙ keep_next _ _ _ _ _ _ _ p.1 p.2 _ _ c.loop-i-test.true (omega (arith, p.0, l.0))
            c.field_at-x.ensures c.field_at-y.ensures w.if-x-k.false,
      )
    ]

pub returns : goal.returns
returns c = sym (c.loop-i.invariant.1 ∙ changing_end _ _ _ _ _ c.loop-i-test.false)
