-- `snapshots_rise` meets its contract: the latest snapshot is the last, and each snapshot and each two in a row are tested.
use Prim.Native.Nat.{ℕ, ◌-◌, ◌<◌}
use mathlib.Core.Path.{◌≡◌, refl, sym, ap}
use mathlib.Core.Bool.{Bool, ◌&&◌}
use mathlib.Core.List.{List, map}
use borrow.Author.Rules.{rules}
use borrow.Author.Tests.{lt-ltb}
use native.Mathlib.Omega.{arith}
use Rattle.std.proofs.lemmas.Iterator.{YieldsList-from_range}
use Rattle.lists.specs.Lists.{range, all, any}
use Rattle.lists.proofs.Selections.{any_true}
use Rattle.layout.specs.Catalog.{Snapshot}
use Rattle.layout.specs.Words.{snapshot_at, snapshots_in}
use Rattle.ducklake.specs.Liveness.{latest_of}
use Rattle.ducklake.specs.Soundness.{follows, change_sound, snapshots_rise}
use Rattle.soundness_fields.proofs.Everywhere.{all_places, next, stands, all_links}
use Rattle.soundness_fields.proofs.snapshots.snapshots_rise.Goals as goal

-- the two tests of some snapshots are the whole test
rises : (run : List ℕ) (n : ℕ) {latest : Snapshot} {a b : Bool} → 0 < n → latest ≡ latest_of (snapshots_in run n)
    → a ≡ all (stands (snapshot_at run) follows) (map (next (snapshot_at run) follows) (range 0 (n - 1)))
    → b ≡ all (change_sound latest.next_catalog_id) (snapshots_in run n) → (a && b) ≡ snapshots_rise (snapshots_in run n)
unfolding snapshots_rise
rises run n h l e f = rw (e, all_links (snapshot_at run) follows n h, f, l, any_true (snapshot_at run) n, lt-ltb 0 n h)

pub returns-then-n-eq0 : goal.returns-then-n-eq0
unfolding snapshots_rise range any
returns-then-n-eq0 c = sym (ap (λ n. snapshots_rise (snapshots_in c.args.snapshots.now n)) c.if-n-eq0.true)

pub returns : goal.returns
returns c =
    rises c.args.snapshots.now _ (omega arith) c.latest_snapshot-latest.ensures
    (all_places _ _ _ (YieldsList-from_range 0 _ _ refl refl) c.all-a.ensures.ran (λ x b q k. search rules))
    (all_places _ _ _ (YieldsList-from_range 0 _ _ refl refl) c.all-b.ensures.ran (λ x b q k. search rules))
