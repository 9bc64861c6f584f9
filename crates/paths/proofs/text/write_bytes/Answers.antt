-- `write_bytes` meets its contract: the bytes are copied to their place.
use Prim.Native.Nat.{◌+◌, ◌-◌}
use mathlib.Core.Path.{◌≡◌, refl}
use native.Mathlib.Omega.{arith}
use lib.ListN.{length}
use lib.Seq.{drop-drop}
use Rattle.lists.specs.Runs.{overwrite}
use Rattle.paths.proofs.text.write_bytes.Goals as goal

pub returns : goal.returns
unfolding overwrite
returns c =
    let a = c.args in
    let size : (a.at + length a.bytes.now) - a.at ≡ length a.bytes.now = omega arith in
    record { bytes = rw (size, c.copy_from_slice.ensures.after, drop-drop) refl; end = refl }
