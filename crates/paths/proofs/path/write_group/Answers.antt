-- `write_group` meets its contract: the dash is written behind the digits, of which there are n.
use native.Mathlib.Omega.{arith}
use Rattle.paths.proofs.Lengths.{hex_length}
use Rattle.paths.proofs.Pieces.{written_then}
use Rattle.paths.proofs.path.write_group.Goals as goal

pub write_bytes-requires : goal.write_bytes-requires
write_bytes-requires c =
    omega (arith, hex_length c.args.n c.args.number)

pub returns : goal.returns
returns c =
    written_then c.write_hex-e.ensures c.write_bytes.ensures (omega arith)
