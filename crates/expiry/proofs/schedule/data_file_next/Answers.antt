-- `data_file_next` meets its contract: it tests as the definition does.
use mathlib.Core.Path.{refl, ap₂, ◌∙◌}
use borrow.Author.Tests.{lt-ltb, le-ltb, le-leb, lt-leb}
use lib.Dec.{leb}
use Rattle.lists.specs.Lists.{first_next}
use Rattle.lists.specs.Runs.{field}
use Rattle.lists.proofs.Comparisons.{is_at_most}
use Rattle.expiry.proofs.schedule.data_file_next.Goals as goal

pub returns-then-n-i : goal.returns-then-n-i
unfolding first_next
returns-then-n-i c = rw (le-ltb _ _ c.if-n-i.true) refl

pub returns-then-k-j : goal.returns-then-k-j
unfolding first_next
returns-then-k-j c = rw (lt-ltb _ _ c.if-n-i.false, le-leb _ _ c.if-k-j.true) refl

pub returns : goal.returns
unfolding first_next field
returns c =
    rw (lt-ltb _ _ c.if-n-i.false, lt-leb _ _ c.if-k-j.false)
    (c.le.ensures ∙ (is_at_most c.data_file_id-a.result.0 c.delete_file_id-b.result.0 ∙ ap₂ (λ a b. leb a.0 b.0) c.data_file_id-a.ensures c.delete_file_id-b.ensures))
