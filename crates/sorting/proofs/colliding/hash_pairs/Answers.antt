-- `hash_pairs` meets its contract: the hash of each record is written at its place.
use Rattle.std.proofs.Common.{sym, ◌∙◌, arith, length-set, rules}
use Rattle.sorting.proofs.Collisions.{digest_pair, placed_start, placed_next, placed_end}
use Rattle.sorting.proofs.colliding.hash_pairs.Goals as goal

pub loop-i-init : goal.loop-i-init
loop-i-init c = (omega arith, search rules, placed_start _ _ _ _)

pub loop-i-preserved : goal.loop-i-preserved
loop-i-preserved c =
    let v = c.loop-i.invariant in (
      omega (arith, c.loop-i-test.true),
      rw length-set v.1,
      v.2 ∙ placed_next _ _ _ _ _ _ c.loop-i-test.true (omega (arith, v.1, c.requires.3))
          (digest_pair _ _ _ _ _ c.field_at-x.ensures c.field_at-y.ensures c.absorb.ensures c.absorb-h.ensures c.hash.ensures.0),
    )

pub returns : goal.returns
returns c = sym (c.loop-i.invariant.2 ∙ placed_end _ _ _ _ _ c.loop-i-test.false)
