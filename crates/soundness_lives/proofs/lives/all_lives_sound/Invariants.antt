-- `all_lives_sound` meets its contract: the loop tests each life, and an open one is live at the latest snapshot.
use mathlib.Core.Path.{◌≡◌}
use Rattle.lists.specs.Lists.{all}
use Rattle.lists.specs.Runs.{from}
use Rattle.layout.specs.Words.{snapshots_in}
use Rattle.ducklake.specs.Soundness.{life_sound}
use Rattle.lookup.specs.Versions.{life_at, with_life}
use Rattle.soundness_lives.specs.Lent.{lives_in}
use Rattle.soundness_lives.proofs.lives.all_lives_sound.Given as goal

abbrev pub invariant-loop-i : goal.invariant-loop-i
invariant-loop-i l =
    all (life_sound (snapshots_in l.snapshots l.n)) (lives_in l.lives.size l.lives.at l.lives.words.now l.lives.n) ≡ all (life_sound (snapshots_in l.snapshots l.n)) (from (λ j. with_life (life_at l.lives.size l.lives.at l.lives.words.now j)) l.i l.lives.n)
