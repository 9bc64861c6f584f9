-- `all_lives_sound` meets its contract: the loop tests each life, and an open one is live at the latest snapshot.
use Prim.Native.Nat.{ℕ, ◌-◌, ◌<◌}
use mathlib.Core.Path.{◌≡◌, sym, ap, ◌∙◌}
use mathlib.Core.Bool.{Bool, true, ◌&&◌}
use mathlib.Core.List.{List}
use native.Mathlib.Omega.{arith}
use borrow.Author.Tests.{leb-true, ltb-true, lt-ltb}
use lib.Dec.{leb, ltb, eqb}
use Rattle.lists.proofs.Loops.{all_pass, all_fail, all_end}
use Rattle.lists.proofs.Members.{In, in_any, in_map, range_in}
use Rattle.lists.proofs.Places.{last_at}
use Rattle.lists.proofs.Tests.{both, and, or_left}
use Rattle.std.specs.Ordering.{is_lt, is_le, nat_cmp}
use Rattle.lists.proofs.Comparisons.{is_less, is_at_most}
use Rattle.layout.specs.Catalog.{absent, Versioned, Snapshot}
use Rattle.layout.specs.Words.{snapshot_at, snapshots_in}
use Rattle.ducklake.specs.Liveness.{live, live_at_some, latest_of, no_snapshot}
use Rattle.ducklake.specs.Soundness.{life_sound}
use Rattle.lookup.specs.Versions.{with_life}
use Rattle.soundness_lives.proofs.lives.all_lives_sound.Goals as goal
use Rattle.soundness_lives.proofs.lives.all_lives_sound.Goals.{else-not-open-via-then-not-open+else-not-life_sound, else-not-open-via-else-not-open}

-- a life that began by the latest snapshot and has not ended is live at that one, which is retained
open_sound : {A : Type 0} (run : List ℕ) (n : ℕ) (v : Versioned A) {s : Snapshot} {began unended later : Bool} → 0 < n → s ≡ latest_of (snapshots_in run n)
    → began ≡ is_le (nat_cmp v.begin s.id) → unended ≡ eqb v.end absent → later ≡ is_lt (nat_cmp s.id v.end) → (began && unended && later) ≡ true → life_sound (snapshots_in run n) v ≡ true
unfolding live live_at_some life_sound
open_sound run n v {s} {began} {unended} {later} some e b o l h =
    let t = both (began && unended) later h in
    let p = both began unended t.0 in
    let before : leb v.begin s.id ≡ true = sym (b ∙ is_at_most v.begin s.id) ∙ p.0 in
    let ends : eqb v.end absent ≡ true = sym o ∙ p.1 in
    let last : ltb s.id v.end ≡ true = sym (l ∙ is_less s.id v.end) ∙ t.1 in
    let ordered : v.begin < v.end = omega (arith, leb-true v.begin s.id before, ltb-true s.id v.end last) in
    let retained : In s (snapshots_in run n) = rw (e ∙ last_at (snapshot_at run) no_snapshot n some) (in_map (snapshot_at run) (range_in 0 n (n - 1) (omega arith) (omega arith))) in
    rw (← e) (and (and (and before (or_left _ _ ends)) (lt-ltb v.begin v.end ordered)) (in_any (λ x. live x.id v) retained (and before (or_left _ _ ends))))

pub returns-then-not-life_sound : goal.returns-then-not-life_sound
returns-then-not-life_sound c =
    let a = c.args in
    let at_i = ap (λ l. life_sound (snapshots_in a.snapshots.now a.n) (with_life l)) c.life_at-l.ensures in
    sym (c.loop-i.invariant ∙ all_fail _ _ _ _ c.loop-i-test.true (sym (sym c.if-not-life_sound.true ∙ c.life_sound.ensures ∙ at_i)))

pub loop-i-preserved : goal.loop-i-preserved
loop-i-preserved c =
    let a = c.args in
    let at_i = ap (λ l. life_sound (snapshots_in a.snapshots.now a.n) (with_life l)) c.life_at-l.ensures in
    c.loop-i.invariant ∙ all_pass _ _ _ _ c.loop-i-test.true (elim c.else-not-open.branch [
      | else-not-open-via-then-not-open+else-not-life_sound w ↦ sym at_i ∙ (sym w.life_sound.ensures ∙ w.if-not-life_sound.false)
      | else-not-open-via-else-not-open w ↦ sym at_i ∙ open_sound a.snapshots.now _ (with_life c.life_at-l.result) c.requires.1 c.latest_snapshot.ensures c.le.ensures c.eq.ensures c.lt.ensures w.if-not-open.false
    ])

pub returns : goal.returns
returns c = sym (c.loop-i.invariant ∙ all_end _ _ _ _ c.loop-i-test.false)
