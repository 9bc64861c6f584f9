-- What lasts from one record of a list to the next: tables that are sound and chained stay so, and the runs stay as long as they are.
use Rattle.std.specs.Prelude.{◌≡◌, true}
use Rattle.layout.specs.declared.outcome.Counts.{Counts}
use Rattle.layout.specs.Words.{Words, load}
use Rattle.ducklake.specs.Soundness.{sound}
use Rattle.refusals.specs.Checked.{checked_of}
use Rattle.chaining.specs.Chained.{is_chained}
use Rattle.catalog_player.specs.declared.judge.Judged.{Judged}

-- where it is said to last, the check gave that of these tables, and they are sound and chained
pub record Lasting (j : Judged) (w : Words) (c : Counts) : Type 0 where
  pub checked : j.lasting ≡ true → j.checked ≡ checked_of w c
  pub is_sound : j.lasting ≡ true → sound w c ≡ true
  pub chained : j.lasting ≡ true → is_chained (load w c) ≡ true
