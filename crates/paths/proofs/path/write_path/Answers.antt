-- `write_path` meets its contract: the UUID is written behind the first bytes, and the last bytes behind the UUID.
use native.Mathlib.Omega.{arith}
use Rattle.ducklake.specs.Paths.{path}
use Rattle.paths.proofs.Lengths.{uuid_length_lem}
use Rattle.paths.proofs.Pieces.{written_then}
use Rattle.paths.proofs.path.write_path.Goals as goal

pub write_bytes-requires : goal.write_bytes-requires
write_bytes-requires c =
    omega (arith, uuid_length_lem c.args.uuid)

pub returns : goal.returns
unfolding path
returns c =
    written_then (written_then c.write_bytes-start.ensures c.write_uuid-end.ensures (omega (arith, c.requires))) c.write_bytes.ensures (omega (arith, c.requires))
