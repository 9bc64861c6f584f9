-- `hash_at` meets its contract: the digest goes on word by word.
use Rattle.std.proofs.Common.{sym, ap, ◌∙◌}
use Rattle.sorting.specs.Colliding.{hashed}
use Rattle.sorting.proofs.Collisions.{digest_next, digest_end}
use Rattle.sorting.proofs.colliding.hash_at.Goals as goal

pub loop-k-preserved : goal.loop-k-preserved
loop-k-preserved c =
    let l = c.loop-k in
    l.invariant ∙ digest_next _ _ _ _ _ c.loop-k-test.true c.field_at-x.ensures c.absorb-h.ensures

pub returns : goal.returns
returns c =
    let l = c.loop-k in
    let round = c.args.round in
    c.hash.ensures.0 ∙ ap (hashed round) (sym (l.invariant ∙ digest_end _ _ _ _ _ c.loop-k-test.false))
