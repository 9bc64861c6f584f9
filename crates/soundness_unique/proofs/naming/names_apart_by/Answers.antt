-- `names_apart_by` meets its contract: records that share a group and a name share a hash, so those left decide, and by their keys names are compared.
use native.Mathlib.Omega.{arith}
use lib.ListN.{length-take}
use lib.Seq.{length-take-le}
use Rattle.layout.specs.Names.{name_size}
use Rattle.soundness_unique.specs.Naming.{name_key_size}
use Rattle.soundness_unique.proofs.LeftPlaces.{left_keyed}
use Rattle.soundness_unique.proofs.NameKeys.{names_are}
use Rattle.soundness_unique.proofs.naming.names_apart_by.Goals as goal

pub put_name_keys-requires : goal.put_name_keys-requires
put_name_keys-requires c =
    let h = c.requires.0 in
    let left = c.left_names-r.ensures.2 _ (length-take-le _ _ c.requires.1.places) in
    (record { recorded = left_keyed _ left _ _ h.living.lent; grouped = h.grouped; named = left_keyed _ left name_size _ h.names_lent }, omega (arith, h.living.inside), left_keyed _ left name_key_size _ c.requires.1.room)

pub records_apart-requires : goal.records_apart-requires
records_apart-requires c =
    let h = c.requires.0 in
    let s = c.requires.1 in
    let left = c.left_names-r.ensures.2 _ (length-take-le _ _ s.places) in (
      left_keyed _ left name_key_size _ (omega (arith, s.room, c.put_name_keys.ensures.0)),
      left_keyed _ left _ _ h.living.lent,
      omega arith,
      h.living.inside,
      simp length-take (omega (arith, length-take-le _ c.args.w.now s.places, length-take-le _ c.args.v.now s.spare, c.left_names-r.auto.hashes, c.left_names-r.ensures.0)),
    )

pub returns : goal.returns
returns c = names_are c.requires.0 (c.left_names-r.ensures.2 _ (length-take-le _ _ c.requires.1.places)) c.put_name_keys.ensures.1 c.records_apart.ensures
