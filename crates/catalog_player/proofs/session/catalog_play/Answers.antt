-- `catalog_play` meets its contract: each call is played on what the one before left, and told behind it.
use native.Mathlib.Omega.{arith}
use Rattle.call_lists.specs.Calls.{asked_of}
use Rattle.call_lists.proofs.Sessions.{played_spans, answer_fits, session_whole}
use Rattle.catalog_player.proofs.Lasting.{none_lasts, lasts}
use Rattle.catalog_player.proofs.Held.{held_start, held_next, lengths_kept, as_long}
use Rattle.catalog_player.proofs.session.catalog_play.Goals as goal

pub loop-i-init : goal.loop-i-init
loop-i-init c = (held_start _ _ _ _ _ _ _ _, none_lasts)

pub call_at-call-requires : goal.call_at-call-requires
call_at-call-requires c =
    omega (arith, c.calls_played-n.ensures.1, c.loop-i-test.true)

pub offset_bounds-area-answered : goal.offset_bounds-area-answered
offset_bounds-area-answered c =
    omega (arith, c.loop-i.invariant.0.area, c.loop-i.invariant.0.playing.room)

-- the answers so far are words of the area

pub slice_bounds-play-count : goal.slice_bounds-play-count
slice_bounds-play-count c =
    c.loop-i.invariant.0.playing.room

-- the answers so far are words of the area

pub slice_bounds-play-start : goal.slice_bounds-play-start
slice_bounds-play-start c =
    c.loop-i.invariant.0.playing.room

pub slice_bounds-play-end : goal.slice_bounds-play-end
slice_bounds-play-end c = omega arith

pub play-outcome-requires : goal.play-outcome-requires
play-outcome-requires c =
    let a = c.args in
    record {
      checked_value = c.judge-judged.ensures.0;
      call_value = played_spans a.calls.now a.lists.now a.names.now a.told.now c.calls_played-n.ensures.0 c.loop-i-test.true c.call_at-call.ensures;
    }

pub write_outcome-requires : goal.write_outcome-requires
write_outcome-requires c =
    omega (arith, c.loop-i.invariant.0.told, c.calls_played-n.ensures.2, c.loop-i-test.true)

pub overflow_add-answered : goal.overflow_add-answered
overflow_add-answered c =
    omega (arith, answer_fits (asked_of _ _ _) _ _ c.loop-i.area c.loop-i.answered c.loop-i.invariant.0.playing.room c.play-outcome.ensures, c.loop-i.invariant.0.area)

pub loop-i-preserved : goal.loop-i-preserved
loop-i-preserved c =
    let k = c.play-outcome.auto in
    let same = lengths_kept _ _ (Unit {0}) (k.snapshots, (k.schemas, (k.schema_names, (k.tables, (k.table_names, (k.columns, (k.column_names, (k.data_files, (k.delete_files, (k.positions, (k.statistics, (k.scheduled, tt)))))))))))) in (
      held_next _ _ _ _ _ _ _ c.loop-i.invariant.0 c.loop-i-test.true c.calls_played-n.ensures.2 c.call_at-call.ensures c.play-outcome.ensures
          same c.play-outcome.auto.area c.write_outcome.ensures c.write_outcome.auto.w,
      lasts (asked_of _ _ _) _ _ _ c.play-outcome.ensures same c.judge-judged.ensures.1,
    )

pub returns : goal.returns
returns c =
    session_whole _ _ _ _ _ _ _ c.calls_played-n.ensures.0 c.loop-i.invariant.0.some c.loop-i-test.false c.loop-i.invariant.0.playing
