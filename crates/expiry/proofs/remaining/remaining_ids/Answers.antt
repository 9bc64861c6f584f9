-- `remaining_ids` meets its contract: each turn writes the id of its snapshot, if it is not listed, behind those written before.
use Prim.Native.Nat.{ℕ, ◌≤◌}
use mathlib.Core.Path.{◌≡◌, refl, sym, ap, ◌∙◌}
use mathlib.Core.Bool.{not}
use mathlib.Core.List.{List}
use native.Mathlib.Omega.{arith}
use lib.ListN.{length, take, length-map}
use Rattle.lists.specs.Lists.{has}
use Rattle.lists.proofs.Loops.{counted, sent, counted_start, counted_pass, counted_fail, counted_end, sent_start, sent_pass, sent_fail, sent_end}
use Rattle.layout.specs.Words.{snapshot_at, snapshots_in}
use Rattle.ducklake.specs.Maintenance.{leaves, remaining}
use Rattle.expiry.specs.Remaining.{ids_left}
use Rattle.expiry.proofs.Ids.{ids_written}
use Rattle.expiry.proofs.remaining.remaining_ids.Goals.{then-not-listed, else-not-listed}
use Rattle.expiry.proofs.remaining.remaining_ids.Goals as goal

-- what was written, when all snapshots have been passed
written : (snapshots : List ℕ) (n : ℕ) (ids w v : List ℕ) (k i : ℕ)
    → length (remaining (snapshots_in snapshots n) ids) ≡ counted (snapshot_at snapshots) (leaves ids) n k i
    → sent (snapshot_at snapshots) (leaves ids) n (λ s. s.id) w 0 0 ≡ sent (snapshot_at snapshots) (leaves ids) n (λ s. s.id) v k i
    → n ≤ i → take k v ≡ ids_left snapshots n ids
written snapshots n ids w v k i e d h =
    let count = sym (e ∙ counted_end _ _ _ _ _ h) in
    ids_written w _ (count ∙ sym (length-map (remaining (snapshots_in snapshots n) ids) (λ s. s.id)))
    (sym (sent_start (snapshot_at snapshots) (leaves ids) n (λ s. s.id) _ ∙ (d ∙ sent_end _ _ _ (λ s. s.id) _ _ _ h)))

pub loop-i-init : goal.loop-i-init
loop-i-init c = (omega arith, counted_start _ _ _, refl)

pub loop-i-preserved : goal.loop-i-preserved
loop-i-preserved c =
    let a = c.args in
    let h = c.loop-i.invariant in
    let e = sym (ap not (c.is_listed-listed.ensures ∙ ap (λ x. has x.0 a.ids.now) c.snapshot_id-s.ensures)) in
    elim c.if-not-listed.branch [
      | then-not-listed w ↦ rw (w.left-is, w.k-is) (
        omega arith,
        h.1 ∙ counted_pass _ _ _ _ _ (omega arith) (e ∙ ap not w.if-not-listed.true),
        h.2 ∙ sent_pass _ _ _ (λ s. s.id) _ _ _ _ (omega arith) (omega arith) (e ∙ ap not w.if-not-listed.true) (ap (λ x. x.0) c.snapshot_id-s.ensures),
      )
      | else-not-listed w ↦ rw (w.left-is, w.k-is) (
        omega arith,
        h.1 ∙ counted_fail _ _ _ _ _ (omega arith) (e ∙ ap not w.if-not-listed.false),
        h.2 ∙ sent_fail _ _ _ (λ s. s.id) _ _ _ (omega arith) (e ∙ ap not w.if-not-listed.false),
      )
    ]

pub returns : goal.returns
returns c =
    let h = c.loop-i.invariant in (
      omega arith,
      written c.args.snapshots.now c.args.n c.args.ids.now c.args.left.now _ _ _ h.1 h.2 (omega arith),
    )
