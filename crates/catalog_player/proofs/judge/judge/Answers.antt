-- `judge` meets its contract: what lasts is handed on, and anything else is what the check gives.
use mathlib.Core.Path.{refl}
use Rattle.chaining.proofs.Checkable.{checkable}
use Rattle.catalog_player.proofs.Lasting.{none_lasts, found_sound, newly_lasts}
use Rattle.catalog_player.proofs.judge.judge.Goals as goal

pub returns-then-known : goal.returns-then-known
returns-then-known c =
    (c.requires.checked c.if-known.true, c.requires)

pub returns-then-not-checked : goal.returns-then-not-checked
returns-then-not-checked c =
    (c.check-checked.ensures, none_lasts)

pub is_chained-lasting-requires : goal.is_chained-lasting-requires
is_chained-lasting-requires c =
    checkable _ _ (found_sound _ _ c.check-checked.ensures c.if-not-checked.false)

pub returns : goal.returns
returns c =
    (c.check-checked.ensures, newly_lasts _ _ c.check-checked.ensures c.if-not-checked.false (c.is_chained-lasting.ensures _ refl refl))
