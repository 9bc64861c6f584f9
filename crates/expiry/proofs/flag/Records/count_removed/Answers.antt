-- `count_removed` meets its contract: each turn counts the record at its place, as the definition does.
use Prim.Native.Nat.{ℕ, ◌+◌}
use mathlib.Core.Path.{sym, ap, ◌∙◌}
use mathlib.Core.Bool.{not}
use native.Mathlib.Omega.{arith}
use lib.ListN.{length}
use Rattle.lists.specs.Lists.{filter, range}
use Rattle.lists.proofs.Selections.{map-id}
use Rattle.lists.proofs.Loops.{counted, counted_start, counted_pass, counted_fail, counted_end}
use Rattle.expiry.proofs.flag.Records.count_removed.Invariants.{goes}
use Rattle.expiry.proofs.flag.Records.count_removed.Goals as goal
use Rattle.expiry.proofs.flag.Records.count_removed.Goals.{then-not-live, else-not-live}

pub loop-i-init : goal.loop-i-init
loop-i-init c =
    let a = c.args in
    (omega arith, ap (λ js. length (filter (goes a.self a.left.ids.now) js)) (map-id (range 0 a.self.n)) ∙ counted_start _ _ _)

pub returns : goal.returns
returns c = sym (c.loop-i.invariant.1 ∙ counted_end _ _ _ _ _ (omega arith))

pub loop-i-preserved : goal.loop-i-preserved
loop-i-preserved c =
    let e = sym (ap not c.stays-live.ensures) in
    let next = λ (k : ℕ). counted (λ j. j) (goes c.args.self c.args.left.ids.now) c.args.self.n k (c.loop-i.i + 1) in
    elim c.if-not-live.branch [
      | then-not-live w ↦ (omega arith, c.loop-i.invariant.1 ∙ counted_pass _ _ _ _ _ (omega arith) (e ∙ ap not w.if-not-live.true) ∙ ap next (sym w.k-is))
      | else-not-live w ↦ (omega arith, c.loop-i.invariant.1 ∙ counted_fail _ _ _ _ _ (omega arith) (e ∙ ap not w.if-not-live.false) ∙ ap next (sym w.k-is))
    ]
