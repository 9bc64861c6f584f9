-- `orders_apart_by` meets its contract: columns that share a table and an order share a hash, so those left decide, and by their keys orders are compared.
use native.Mathlib.Omega.{arith}
use lib.ListN.{length-take}
use lib.Seq.{length-take-le}
use Rattle.layout.specs.Fields.{column_size}
use Rattle.soundness_unique.specs.Naming.{order_key_size}
use Rattle.soundness_unique.proofs.LeftPlaces.{left_keyed}
use Rattle.soundness_unique.proofs.NameKeys.{orders_are}
use Rattle.soundness_unique.proofs.naming.orders_apart_by.Goals as goal

pub put_order_keys-requires : goal.put_order_keys-requires
put_order_keys-requires c =
    let left = c.left_orders-r.ensures.2 _ (length-take-le _ _ c.requires.1.places) in
    (left_keyed _ left column_size _ c.requires.0.lent, left_keyed _ left order_key_size _ c.requires.1.room)

pub records_apart-requires : goal.records_apart-requires
records_apart-requires c =
    let s = c.requires.1 in
    let left = c.left_orders-r.ensures.2 _ (length-take-le _ _ s.places) in (
      left_keyed _ left order_key_size _ (omega (arith, s.room, c.put_order_keys.ensures.0)),
      left_keyed _ left column_size _ c.requires.0.lent,
      omega arith,
      c.requires.0.inside,
      simp length-take (omega (arith, length-take-le _ c.args.w.now s.places, length-take-le _ c.args.v.now s.spare, c.left_orders-r.auto.hashes, c.left_orders-r.ensures.0)),
    )

pub returns : goal.returns
returns c = orders_are c.requires.0 (c.left_orders-r.ensures.2 _ (length-take-le _ _ c.requires.1.places)) c.put_order_keys.ensures.1 c.records_apart.ensures
