-- A place counted from 1 is one more than a place.
use Prim.Native.Nat.{suc, ◌-◌}
use mathlib.Core.Path.{◌≡◌, sym, ap, ◌∙◌}
use native.Mathlib.Omega.{arith}
use Rattle.scans.specs.Deletions.{delete_id_at}
use Rattle.scans.proofs.files.delete_id.Goals as goal

pub returns-then-place-eq0 : goal.returns-then-place-eq0
returns-then-place-eq0 c = let a = c.args in sym (ap (delete_id_at a.delete_files.now) c.if-place-eq0.true)

pub returns : goal.returns
returns c =
    let a = c.args in
    let q : suc (a.place - 1) ≡ a.place = omega arith in
    ap (λ r. r.0) c.delete_file_id.ensures ∙ ap (delete_id_at a.delete_files.now) q
