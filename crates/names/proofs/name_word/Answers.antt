-- `name_word` meets its contract: the first half of a word counts in the numbers of the second.
use native.Mathlib.Omega.{arith}
use Rattle.names.proofs.NameWords.{word_sum}
use Rattle.names.proofs.name_word.Goals as goal

pub returns : goal.returns
returns c =
    omega (arith, word_sum c.args.names.now c.args.i c.args.k c.requires.0 c.requires.1)
