-- `is_name_argument` meets its contract: the length is tested, then each byte.
use Rattle.std.proofs.Common.{rules, tests, ◌∙◌}
use borrow.Author.Tests.{le-leb, lt-leb}
use Rattle.std.proofs.lemmas.Iterator.{YieldsList-from_slice}
use Rattle.std.proofs.lemmas.Iterator.Search.{all_from_yields_List}
use Rattle.layout.specs.Names.{is_name_byte, is_name_argument}
use Rattle.names.proofs.Chains.{all_told}
use Rattle.names.proofs.is_name_argument.Goals as goal

pub returns-then-n-lt1 : goal.returns-then-n-lt1
unfolding is_name_argument
returns-then-n-lt1 c = simp (lt-leb _ _ c.if-n-lt1.true)

pub returns-then-n-gt-NAME_SIZE : goal.returns-then-n-gt-NAME_SIZE
unfolding is_name_argument
returns-then-n-gt-NAME_SIZE c = simp (le-leb _ _ c.if-n-lt1.false, lt-leb _ _ c.if-n-gt-NAME_SIZE.true)

pub returns : goal.returns
unfolding is_name_argument
returns c =
    simp (le-leb _ _ c.if-n-lt1.false, le-leb _ _ c.if-n-gt-NAME_SIZE.false)
    (all_from_yields_List is_name_byte _ _ c.all.result c.all.ensures.ran (YieldsList-from_slice c.args.name.now cc) (λ x b q k. search (rules, tests)) ∙ all_told is_name_byte c.args.name.now)
