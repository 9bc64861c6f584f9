-- `holds_name` meets its contract: the place and the padded name are compared byte by byte.
use mathlib.Core.Path.{refl, sym, ◌∙◌}
use borrow.Author.Tests.{eq-eqb, ne_eqb}
use lib.Dec.{eqb}
use Rattle.lists.proofs.Windows.{agree_first_pass, agree_first_fail, agree_none}
use Rattle.layout.specs.Names.{same_name}
use Rattle.layout.proofs.Names.{place_step, place_end, padded_step, padded_end}
use Rattle.names.proofs.holds_name.Goals as goal

pub returns-then-names-a : goal.returns-then-names-a
unfolding same_name
returns-then-names-a c =
    let l = c.loop-k in
    let t = c.loop-k-test.true in
    let b = c.padded_byte-b.ensures in
    sym (l.invariant ∙ agree_first_fail eqb (place_step c.args.names.now c.args.i c.requires.0 l.k t) (padded_step c.args.name.now c.requires.1 l.k t b) (ne_eqb _ _ c.if-names-a.true))

pub loop-k-preserved : goal.loop-k-preserved
loop-k-preserved c =
    let l = c.loop-k in
    let t = c.loop-k-test.true in
    let b = c.padded_byte-b.ensures in
    l.invariant ∙ agree_first_pass eqb (place_step c.args.names.now c.args.i c.requires.0 l.k t) (padded_step c.args.name.now c.requires.1 l.k t b) (eq-eqb _ _ c.if-names-a.false)

pub returns : goal.returns
unfolding same_name
returns c =
    let k = c.loop-k.k in
    sym (c.loop-k.invariant ∙ agree_none eqb (place_end c.args.names.now c.args.i k c.loop-k-test.false) (padded_end c.args.name.now c.requires.1 k c.loop-k-test.false))
