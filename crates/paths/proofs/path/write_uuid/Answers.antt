-- `write_uuid` meets its contract: five groups, each written behind the one before.
use native.Mathlib.Omega.{arith}
use Rattle.ducklake.specs.Paths.{uuid_text}
use Rattle.paths.proofs.Pieces.{written_then}
use Rattle.paths.proofs.path.write_uuid.Goals as goal

pub returns : goal.returns
unfolding uuid_text
returns c =
    let h = c.requires in
    written_then (written_then (written_then (written_then c.write_group-second.ensures c.write_group-third.ensures (omega (arith, h)))
    c.write_group-fourth.ensures (omega (arith, h))) c.write_group-fifth.ensures (omega (arith, h))) c.write_hex.ensures (omega (arith, h))
