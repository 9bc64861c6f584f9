-- `ascending_below` meets its contract: the last word is the highest, and no word at all is below any limit.
use Rattle.std.proofs.Common.{ltb, eq-eqb, sym, ap, ◌∙◌, arith}
use Rattle.lists.proofs.Loops.{all_start, all_end}
use Rattle.runs.proofs.Places.{last_below}
use Rattle.runs.proofs.fields.Fields.ascending_below.Goals as goal

pub returns-then-self-eq0 : goal.returns-then-self-eq0
returns-then-self-eq0 c = eq-eqb _ _ c.if-self-eq0.true ∙ sym (all_start _ _ _ ∙ all_end _ _ _ _ (omega (arith, c.if-self-eq0.true)))

pub returns-else-self-eq0 : goal.returns-else-self-eq0
returns-else-self-eq0 c =
    let a = c.args in
    ap (λ x. ltb x a.limit) c.get.ensures ∙ last_below _ a.limit a.self.n c.requires (omega (arith, c.if-self-eq0.false))
