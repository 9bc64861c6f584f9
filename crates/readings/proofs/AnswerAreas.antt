-- An answer of a known length: the area has room for it, or has not.
use Rattle.std.specs.Prelude.{Ok, Err}
use Prim.Native.Nat.{ℕ, ◌≤◌, ◌<◌}
use mathlib.Core.Path.{◌≡◌, refl}
use mathlib.Core.Bool.{true, false}
use mathlib.Core.List.{List}
use native.Mathlib.Omega.{arith}
use lib.Dec.{leb}
use lib.ListN.{length}
use borrow.Author.Tests.{le-leb, lt-leb}
use Rattle.lists.specs.Runs.{overwrite}
use Rattle.layout.specs.declared.refusal.Refusal.TheVariants.{ShortAnswerArea}
use Rattle.readings.specs.Answers.{Answered}

module _ (words area : List ℕ) {l : ℕ} (e : l ≡ length words) where
  pub answered_short : length area < l → Answered words area (Err ShortAnswerArea) area
  answered_short h = record { number = rw short refl; count = rw short refl; left = rw short refl }
    where
      short : leb (length words) (length area) ≡ false
      short = lt-leb (length words) (length area) (omega (arith, h, e))

  pub answered_whole : {area' : List ℕ} → l ≤ length area → area' ≡ overwrite area 0 words → Answered words area (Ok l) area'
  answered_whole h q = record { number = rw fits refl; count = rw fits e; left = rw fits q }
    where
      fits : leb (length words) (length area) ≡ true
      fits = le-leb (length words) (length area) (omega (arith, h, e))
