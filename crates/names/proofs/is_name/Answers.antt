-- `is_name` meets its contract: each byte is judged by itself and by the one before it.
use mathlib.Core.Path.{sym, ◌∙◌}
use Rattle.layout.proofs.Names.{place_step, place_end}
use Rattle.names.proofs.NameBytes.{rest_start, rest_next, rest_end}
use Rattle.names.proofs.is_name.Goals as goal

pub loop-k-init : goal.loop-k-init
loop-k-init c = rest_start c.args.names.now c.args.i c.requires

pub loop-k-preserved : goal.loop-k-preserved
loop-k-preserved c =
    c.loop-k.invariant
    ∙ rest_next c.loop-k.ok c.loop-k.before (place_step c.args.names.now c.args.i c.requires c.loop-k.k c.loop-k-test.true) c.is_name_byte-named.ensures

pub returns : goal.returns
returns c =
    let l = c.loop-k in
    sym (l.invariant ∙ rest_end l.ok l.before (place_end c.args.names.now c.args.i l.k c.loop-k-test.false))
