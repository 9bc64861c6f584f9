-- `life_sound` meets its contract: the latest snapshot is the last, and `is_live_at_some` is the last test.
use mathlib.Core.Path.{◌≡◌, refl}
use mathlib.Core.Bool.{Bool, ◌&&◌, ◌||◌}
use mathlib.Core.List.{List}
use lib.Dec.{eqb}
use Rattle.std.specs.Ordering.{is_lt, is_le, nat_cmp}
use Rattle.lists.proofs.Comparisons.{is_less, is_at_most}
use Rattle.layout.specs.Catalog.{absent, Snapshot}
use Rattle.ducklake.specs.Liveness.{live_at_some, latest_of}
use Rattle.ducklake.specs.Soundness.{life_sound}
use Rattle.lookup.specs.Versions.{with_life}
use Rattle.lookup.specs.declared.life.Life.{Life}
use Rattle.soundness_lives.proofs.lives.life_sound.Goals as goal

-- the test of one life, from its parts
tested : (ns : List Snapshot) (l : Life) {s : Snapshot} {began unended ended ordered some : Bool} → s ≡ latest_of ns
    → began ≡ is_le (nat_cmp l.begin.0 s.id) → unended ≡ eqb l.end.0 absent → ended ≡ is_le (nat_cmp l.end.0 s.id) → ordered ≡ is_lt (nat_cmp l.begin.0 l.end.0) → some ≡ live_at_some ns (with_life l)
    → (began && (unended || ended) && ordered && some) ≡ life_sound ns (with_life l)
unfolding life_sound
tested ns l {s} e b o d r f = rw (← e, b, o, d, r, f, is_at_most l.begin.0 s.id, is_at_most l.end.0 s.id, is_less l.begin.0 l.end.0) refl

pub returns : goal.returns
returns c =
    tested _ c.args.l c.latest_snapshot-latest.ensures c.le.ensures c.eq.ensures c.le-2.ensures c.lt.ensures c.is_live_at_some-some.ensures
