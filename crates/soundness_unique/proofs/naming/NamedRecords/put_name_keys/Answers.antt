-- `put_name_keys` meets its contract: at every turn the places so far have their keys.
use Rattle.sorting.proofs.KeyOrder.{keyed_at_lem}
use Rattle.soundness_unique.proofs.KeyWrites.{keys_next}
use Rattle.soundness_unique.proofs.NameKeys.{name_key_length}
use Rattle.soundness_unique.proofs.naming.NamedRecords.put_name_keys.Goals as goal

pub put_name_key-requires : goal.put_name_key-requires
put_name_key-requires c =
    let p = c.requires in
    let t = c.loop-i-test.true in (
      record { lent = keyed_at_lem _ _ _ _ p.0.recorded t; grouped = p.0.grouped; name_lent = keyed_at_lem _ _ _ _ p.0.named t },
      p.1,
      rw c.loop-i.invariant.0 (keyed_at_lem _ _ _ _ p.2 t),
    )

pub loop-i-preserved : goal.loop-i-preserved
loop-i-preserved c =
    let l = c.loop-i.invariant in
    let a = c.args.self in
    keys_next _ _ _ _ _ _ _ c.loop-i-test.true c.requires.2 (name_key_length a.records.size a.group a.records.begin a.records.table.now a.names.now) c.put_name_key.ensures l.0 l.1
