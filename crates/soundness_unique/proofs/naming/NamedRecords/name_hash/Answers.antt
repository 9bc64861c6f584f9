-- `name_hash` meets its contract: the digest goes on word by word.
use mathlib.Core.Path.{ap, ◌∙◌}
use Rattle.sorting.specs.declared.colliding.Round.TheVariants.{First}
use Rattle.sorting.specs.Colliding.{hashed}
use Rattle.soundness_unique.proofs.NameKeys.{name_digest}
use Rattle.soundness_unique.proofs.naming.NamedRecords.name_hash.Goals as goal

pub returns : goal.returns
returns c =
    let a = c.args.self in
    c.hash.ensures.0
    ∙ ap (hashed First) (name_digest a.records.size a.group a.records.table.now a.names.now c.args.i c.group_at.ensures c.name_word.ensures c.name_word-2.ensures c.name_word-3.ensures
    c.name_word-4.ensures c.absorb-a.ensures c.absorb-b.ensures c.absorb-c.ensures c.absorb-d.ensures c.absorb-e.ensures)
