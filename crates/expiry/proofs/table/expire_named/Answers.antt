-- `expire_named` meets its contract: records and names go by the same flags.
use native.Mathlib.Omega.{arith}
use Rattle.lists.proofs.Flags.{compacted_as, compacted_beside}
use Rattle.layout.specs.Names.{name_size}
use Rattle.expiry.proofs.table.expire_named.Goals as goal

pub returns : goal.returns
returns c =
    let g = c.flag_live.ensures in
    let w = compacted_as _ (λ j h. g.set j h) c.keep_rows-2.ensures in
    record { records_left = w; names_left = compacted_beside _ name_size _ _ _ _ (omega (arith, c.requires.versions.inside)) (omega arith) w (compacted_as _ (λ j h. g.set j h) c.keep_rows.ensures) }
