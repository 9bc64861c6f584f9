-- `write_hex` meets its contract: the last digit is that of the remainder, and those before it are digits of the quotient.
use mathlib.Core.Path.{◌≡◌}
use Rattle.lists.specs.Runs.{overwrite}
use Rattle.ducklake.specs.Paths.{hex}
use Rattle.paths.proofs.path.write_hex.Given as goal

-- the first i digits are still to be written
abbrev pub invariant-loop-i : goal.invariant-loop-i
invariant-loop-i l = overwrite l.initial.text l.at (hex l.n l.number) ≡ overwrite l.text l.at (hex l.i l.rest)
