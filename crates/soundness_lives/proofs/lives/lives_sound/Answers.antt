-- `lives_sound` meets its contract: of a record only its life is judged.
use mathlib.Core.Path.{refl, ap₂, ◌∙◌}
use mathlib.Core.Bool.{◌&&◌}
use Rattle.lists.specs.Lists.{range}
use Rattle.lists.specs.Runs.{field}
use Rattle.lists.proofs.Selections.{all_maps}
use Rattle.layout.specs.Words.{load}
use Rattle.ducklake.specs.Liveness.{live, live_at_some}
use Rattle.ducklake.specs.Soundness.{life_sound, lives_sound}
use Rattle.soundness_lives.proofs.lives.lives_sound.Goals as goal

pub returns : goal.returns
unfolding field live live_at_some life_sound lives_sound load
returns c w e₁ e₂ e₃ e₄ e₅ e₆ =
    rw (e₁, e₂, e₃, e₄, e₅, e₆)
    (ap₂ ◌&&◌ (ap₂ ◌&&◌ (ap₂ ◌&&◌ (ap₂ ◌&&◌ (c.all_lives_sound-a.ensures ∙ all_maps _ _ _ _ (range 0 _) (λ _. refl)) (c.all_lives_sound-b.ensures ∙ all_maps _ _ _ _ (range 0 _) (λ _. refl)))
    (c.all_lives_sound-c.ensures ∙ all_maps _ _ _ _ (range 0 _) (λ _. refl))) (c.all_lives_sound-d.ensures ∙ all_maps _ _ _ _ (range 0 _) (λ _. refl)))
    (c.all_lives_sound-e.ensures ∙ all_maps _ _ _ _ (range 0 _) (λ _. refl)))
