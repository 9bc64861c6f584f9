-- `put_order_keys` meets its contract: a word of a key after another.
use mathlib.Core.Path.{◌∙◌}
use native.Mathlib.Omega.{arith}
use Rattle.soundness_unique.proofs.NameKeys.{keyed_still, order_keys}
use Rattle.soundness_unique.proofs.naming.put_order_keys.Goals as goal

pub put_words-requires-2 : goal.put_words-requires-2
put_words-requires-2 c =
    (c.requires.0, omega arith, keyed_still c.put_words.ensures.0 c.requires.1, omega arith)

pub put_words-requires-3 : goal.put_words-requires-3
put_words-requires-3 c =
    (c.requires.0, omega arith, keyed_still (c.put_words-2.ensures.0 ∙ c.put_words.ensures.0) c.requires.1, omega arith)

pub returns : goal.returns
returns c = (
  c.put_words-3.ensures.0 ∙ (c.put_words-2.ensures.0 ∙ c.put_words.ensures.0),
  order_keys _ c.put_words.ensures.1 c.put_words-2.ensures.1 c.put_words-3.ensures.1,
)
