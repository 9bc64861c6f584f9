-- `same_name` meets its contract: the two places are compared as slices.
use Rattle.std.proofs.Common.{◌≡◌, ℕ, ◌+◌, ◌-◌, ◌*◌, arith}
use Rattle.layout.specs.Names.{name_size, same_name}
use Rattle.names.proofs.Chains.{agree_told}
use Rattle.names.proofs.same_name.Goals as goal

pub returns : goal.returns
unfolding same_name
returns c =
    let size : (x : ℕ) → (x + name_size) - x ≡ name_size = λ x. omega arith in
    rw (← agree_told) (rw (size (name_size * c.args.i), size (name_size * c.args.j)) at c.eq.ensures)
