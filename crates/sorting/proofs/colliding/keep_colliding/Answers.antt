-- `keep_colliding` meets its contract: few places all stay; of some the short hashes are counted, and where two of these differ the hashes do.
use Rattle.std.proofs.Common.{ℕ, ◌%◌, ◌<◌, map, length, ap, ◌∙◌, arith}
use lib.ListN.{length-map}
use Rattle.lists.proofs.Selections.{map-map}
use Rattle.sorting.specs.Colliding.{some_hashes}
use Rattle.sorting.proofs.Collisions.{all-below, kept_finer}
use Rattle.sorting.proofs.colliding.keep_colliding.Goals as goal

abbrev short : ℕ → ℕ
short h = h % some_hashes

short_below : (h : ℕ) → short h < some_hashes
short_below h = omega arith

pub keep_counted-requires : goal.keep_counted-requires
keep_counted-requires c = (
  ap length c.shorten.ensures ∙ (length-map c.args.hashes.now short ∙ c.requires.0),
  all-below short some_hashes short_below c.args.hashes.now c.shorten.ensures,
  omega arith,
)

pub returns-then-n-le-SOME_PLACES : goal.returns-then-n-le-SOME_PLACES
returns-then-n-le-SOME_PLACES c =
    let e = c.keep_counted.ensures in
    (e.0, e.1, λ hash h. kept_finer short hash (e.2 (λ p. short (hash p)) (c.shorten.ensures ∙ (ap (map short) h ∙ map-map short hash c.args.w.now))))
