-- `neighbours_apart` meets its contract: the loop compares each two that follow each other.
use Rattle.std.proofs.Common.{◌-◌, sym, ◌∙◌, arith}
use Rattle.lists.proofs.Members.{in_get_d}
use Rattle.sorting.proofs.Passes.{chain_turn, chain_over, chain_end}
use Rattle.sorting.proofs.distinct.neighbours_apart.Goals as goal

pub apart-ok-requires : goal.apart-ok-requires
apart-ok-requires g c = c.requires _ _ (in_get_d 0 _ _ (omega (arith, c.loop-i-test.true))) (in_get_d 0 _ _ c.loop-i-test.true)

pub returns-then-not-ok : goal.returns-then-not-ok
returns-then-not-ok g c q e =
    let t = c.loop-i-test.true in
    sym (c.loop-i.invariant q e
    ∙ chain_over q _ _ (omega arith) t (sym (e _ _ _ (in_get_d 0 _ _ (omega (arith, t))) (in_get_d 0 _ _ t) c.apart-ok.ensures) ∙ c.if-not-ok.true))

pub loop-i-preserved : goal.loop-i-preserved
loop-i-preserved g c q e =
    let t = c.loop-i-test.true in
    c.loop-i.invariant q e
    ∙ chain_turn q _ _ (omega arith) t (sym (e _ _ _ (in_get_d 0 _ _ (omega (arith, t))) (in_get_d 0 _ _ t) c.apart-ok.ensures) ∙ c.if-not-ok.false)

pub returns : goal.returns
returns g c q e = sym (c.loop-i.invariant q e ∙ chain_end q c.args.w.now (c.loop-i.i - 1) (omega (arith, c.loop-i-test.false)))
