-- `put_name_key` meets its contract: the words are written one after another.
use Prim.Native.Nat.{◌*◌}
use mathlib.Core.Path.{ap, ◌∙◌}
use mathlib.Core.List.{[], ◌∷◌}
use native.Mathlib.Numerals.{towards_suc}
use native.Mathlib.Omega.{arith}
use lib.ListN.{length-set}
use Rattle.lists.specs.Runs.{overwrite}
use Rattle.lists.proofs.Runs.{overwrite_sets}
use Rattle.soundness_unique.specs.Naming.{name_key_size}
use Rattle.soundness_unique.proofs.NameKeys.{name_key_lem}
use Rattle.soundness_unique.proofs.naming.NamedRecords.put_name_key.Goals as goal

pub bounds-keys-k-2 : goal.bounds-keys-k-2
bounds-keys-k-2 c = simp length-set (omega arith)

pub bounds-keys-k-3 : goal.bounds-keys-k-3
bounds-keys-k-3 c = simp length-set (omega arith)

pub bounds-keys-k-4 : goal.bounds-keys-k-4
bounds-keys-k-4 c = simp length-set (omega arith)

pub bounds-keys-k-5 : goal.bounds-keys-k-5
bounds-keys-k-5 c = simp length-set (omega arith)

pub bounds-keys-k-6 : goal.bounds-keys-k-6
bounds-keys-k-6 c = simp length-set (omega arith)

pub shape_of-keys : goal.shape_of-keys
shape_of-keys c = simp length-set

pub returns : goal.returns
returns c =
    let a = c.args in
    let ws = c.group_at.result ∷ (c.name_word.result ∷ (c.name_word-2.result ∷ (c.name_word-3.result ∷ (c.name_word-4.result ∷ (c.field_at.result ∷ []))))) in
    ◌∙◌ {b = overwrite a.keys.now (name_key_size * a.i) ws} (simp towards_suc (overwrite_sets a.keys.now (name_key_size * a.i) ws c.requires.2))
    (ap (overwrite a.keys.now (name_key_size * a.i))
    (name_key_lem a.self.records.size a.self.group a.self.records.begin a.self.records.table.now a.self.names.now a.i c.group_at.ensures c.name_word.ensures c.name_word-2.ensures c.name_word-3.ensures
    c.name_word-4.ensures c.field_at.ensures))
