-- `is_live_among_near` meets its contract: live at the last number or, if not, the place found is that of the first number from the begin on.
use mathlib.Core.Path.{sym, ap, ◌∙◌}
use native.Mathlib.Omega.{arith}
use Rattle.lists.specs.Runs.{field}
use Rattle.lists.proofs.Search.{ascending_weakly}
use Rattle.ducklake.specs.Liveness.{live}
use Rattle.lookup.specs.Versions.{with_life}
use Rattle.lookup.proofs.Liveness.{live_at_lem, live_nowhere, live_first}
use Rattle.lookup.proofs.live.is_live_among_near.Goals as goal

pub returns-then-now : goal.returns-then-now
returns-then-now c =
    let a = c.args in
    sym (live_at_lem (with_life a.l) (field a.numbers.size a.numbers.at a.numbers.words.now) _ _ (omega arith) c.get-last.ensures (sym c.is_live-now.ensures ∙ c.if-now.true))

pub count_below-i-requires : goal.count_below-i-requires
count_below-i-requires c = ascending_weakly _ c.requires

pub returns-then-numbers-i : goal.returns-then-numbers-i
returns-then-numbers-i c =
    let a = c.args in
    sym (live_nowhere (with_life a.l) (field a.numbers.size a.numbers.at a.numbers.words.now) _ _ c.requires c.count_below-i.ensures c.if-numbers-i.true)

pub returns : goal.returns
returns c =
    let a = c.args in
    c.is_live.ensures ∙ (ap (λ x. live x (with_life a.l)) c.get-s.ensures
    ∙ sym (live_first (with_life a.l) (field a.numbers.size a.numbers.at a.numbers.words.now) _ _ c.requires c.count_below-i.ensures c.if-numbers-i.false))
