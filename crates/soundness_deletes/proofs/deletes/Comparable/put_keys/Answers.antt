-- `put_keys` meets its contract: the second word put leaves the first.
use native.Mathlib.Omega.{arith}
use Rattle.layout.specs.Fields.{delete_file_size}
use Rattle.soundness_deletes.proofs.DeleteOrder.{below_keyed, deletes_keyed}
use Rattle.soundness_deletes.proofs.deletes.Comparable.put_keys.Goals as goal

pub put_words-requires : goal.put_words-requires
put_words-requires c =
    let p = c.requires in
    (below_keyed delete_file_size _ _ _ c.args.self.files.located.held.lent p.1, omega arith, below_keyed 2 _ _ _ p.0 p.1, omega arith)

pub put_words-requires-2 : goal.put_words-requires-2
put_words-requires-2 c =
    let p = c.requires in
    (below_keyed delete_file_size _ _ _ c.args.self.files.located.held.lent p.1, omega arith, below_keyed 2 _ _ _ (omega (arith, p.0, c.put_words.ensures.0)) p.1, omega arith)

pub returns : goal.returns
returns c =
    deletes_keyed c.requires.0 c.requires.1 c.put_words.ensures c.put_words-2.ensures
