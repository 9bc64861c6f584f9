-- As many records as both runs have room for, up to the first that asks for nothing.
use mathlib.Core.Path.{◌∙◌, ap}
use native.Mathlib.Omega.{arith}
use lib.ListN.{length}
use Rattle.call_lists.specs.Calls.{call_count}
use Rattle.call_lists.specs.Playing.{calls_played}
use Rattle.call_lists.proofs.Leading.{counted_most, played_fit}
use Rattle.catalog_player.proofs.session.calls_played.Goals as goal

pub count_calls-requires : goal.count_calls-requires
count_calls-requires c =
    (played_fit c.args.calls.now c.args.told.now c.min-most.ensures).0

pub returns : goal.returns
unfolding calls_played
returns c =
    let a = c.args in
    let m = counted_most a.calls.now (length a.lists.now) (length a.names.now) c.min-most.result in
    let f = played_fit a.calls.now a.told.now c.min-most.ensures in (
      c.count_calls.ensures ∙ ap (call_count a.calls.now (length a.lists.now) (length a.names.now)) c.min-most.ensures,
      omega (arith, m, f.0, c.count_calls.ensures),
      omega (arith, m, f.1, c.count_calls.ensures),
    )
