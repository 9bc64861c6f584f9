-- The part begins k words behind the run's begin.
use native.Mathlib.Omega.{arith}
use Prim.Native.Nat.{ℕ, ◌+◌, ◌-◌}
use mathlib.Core.List.{List}
use mathlib.Core.Path.{◌≡◌, refl}
use lib.ListN.{take, drop}
use Rattle.file_lookup.proofs.find.part_of.Goals as goal

part_words : (k n : ℕ) (xs : List ℕ) → take ((k + n) - k) (drop k xs) ≡ take n (drop k xs)
part_words k n xs = let e : (k + n) - k ≡ n = omega arith in rw e

pub returns : goal.returns
returns c = let a = c.args in record { block = refl; start = omega arith; words = part_words a.k a.n a.run.now }
