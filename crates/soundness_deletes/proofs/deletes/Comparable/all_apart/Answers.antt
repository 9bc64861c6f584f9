-- `all_apart` meets its contract: the places left decide, and of these, in the order of keys, those that follow each other.
use borrow.Author.Rules.{rules}
use mathlib.Core.Path.{sym, ◌∙◌}
use native.Mathlib.Omega.{arith}
use lib.Dec.{ltb}
use lib.ListN.{length-take}
use lib.Seq.{length-take-le}
use Rattle.sorting.proofs.Groups.{within_range}
use Rattle.soundness_deletes.proofs.DeleteOrder.{places_keyed, place_below, hashes_of, apart_by, deletes_decided}
use Rattle.soundness_deletes.proofs.deletes.Comparable.all_apart.Goals as goal

pub keep_colliding-r-requires : goal.keep_colliding-r-requires
keep_colliding-r-requires c =
    let p = c.requires in
    let h = c.hash_fields in
    let n = c.number in (
      omega (arith, h.auto.hashes, n.auto.w, p.1, p.2),
      (hashes_of _ _ n.ensures p.1 (h.auto.hashes ∙ p.2) h.ensures).1,
    )

pub slice_bounds-put_keys-end-2 : goal.slice_bounds-put_keys-end-2
slice_bounds-put_keys-end-2 c =
    let k = c.keep_colliding-r in
    sym (length-take-le _ k.new.w (omega (arith, k.ensures.0, k.ensures.1)))

pub put_keys-requires : goal.put_keys-requires
put_keys-requires c =
    let p = c.requires in
    let h = c.hash_fields in
    let n = c.number in
    let k = c.keep_colliding-r.ensures.2 _ (hashes_of _ _ n.ensures p.1 (h.auto.hashes ∙ p.2) h.ensures).0 in
    (p.0, k.within (λ q. ltb q _) (rw (n.ensures, p.1) (within_range _)))

pub places_apart-requires : goal.places_apart-requires
places_apart-requires c =
    let p = c.requires in
    let t = c.keep_colliding-r in
    let k = c.put_keys.ensures in (
      record { keyed = places_keyed k; scratch = simp length-take (omega (arith, p.1, p.2, c.number.auto.w, c.hash_fields.auto.hashes, t.auto.hashes, t.ensures.0)) },
      omega arith,
      λ i j a b. search (place_below k a, place_below k b, rules),
    )

pub returns : goal.returns
returns c =
    let p = c.requires in
    let h = c.hash_fields in
    let n = c.number in
    let d = c.args.self in
    c.places_apart.ensures _ (λ i j r x y e. search (e, rules)) (deletes_decided d.files _ d.lives c.put_keys.ensures)
    ∙ apart_by d.files n.ensures p.1 (c.keep_colliding-r.ensures.2 _ (hashes_of _ _ n.ensures p.1 (h.auto.hashes ∙ p.2) h.ensures).0)
