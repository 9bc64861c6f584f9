-- From the last delete file to the first: what has been found is the first one, for each data file, of those passed.
use Prim.Native.Nat.{◌-◌, ◌+◌}
use mathlib.Core.Path.{◌≡◌, ap, ◌∙◌}
use native.Mathlib.Omega.{arith}
use Rattle.scans.specs.Deletions.{set_at}
use Rattle.scans.proofs.LiveDeletes.{found_start, found_live, found_ended, found_end}
use Rattle.scans.proofs.deletions.find_live_delete_files.Goals as goal

pub loop-j-init : goal.loop-j-init
loop-j-init c =
    let a = c.args in
    found_start a.data_files.now a.n a.delete_files.now a.m a.s.0 a.places.now c.requires.zeros

pub loop-j-preserved-then-live : goal.loop-j-preserved-then-live
loop-j-preserved-then-live c =
    let h = c.loop-j in
    let place : h.j - 1 + 1 ≡ h.j = omega (arith, c.loop-j-test.true) in
    found_live _ _ _ _ _ _ h.j (h.j - 1) (omega (arith, c.loop-j-test.true)) (omega (arith, c.loop-j-test.true, h.auto.j)) c.life_at-l.ensures c.is_live-live.ensures h.invariant c.requires.by_id.ascending
    (omega (arith, h.auto.places, c.requires.room)) c.if-live.true (ap (λ f. f.0) c.delete_file_data_file-file.ensures) (c.set_at_data_file.ensures ∙ ap (set_at _ h.places) place)

pub loop-j-preserved : goal.loop-j-preserved
loop-j-preserved c =
    let h = c.loop-j in
    found_ended c.args.data_files.now _ _ c.args.m _ h.places h.j (h.j - 1) (omega (arith, c.loop-j-test.true)) (omega (arith, c.loop-j-test.true, h.auto.j)) c.life_at-l.ensures c.is_live-live.ensures h.invariant c.if-live.false

pub returns : goal.returns
returns c =
    let h = c.loop-j in
    let a = c.args in
    found_end a.data_files.now a.n a.delete_files.now a.m a.s.0 h.places h.j (omega (arith, c.loop-j-test.false)) (omega (arith, h.auto.places, c.requires.room)) h.invariant
