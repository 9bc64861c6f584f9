-- `put_file_keys` meets its contract: at every turn the first words of the keys are put.
use mathlib.Core.Path.{◌∙◌}
use native.Mathlib.Omega.{arith}
use Rattle.soundness_unique.specs.Files.{file_word, shifted}
use Rattle.soundness_unique.proofs.FileKeys.{keys_more, keys_whole}
use Rattle.soundness_unique.proofs.distinct.put_file_keys.Goals as goal

pub put_file_words-requires : goal.put_file_words-requires
put_file_words-requires c =
    let p = c.requires.1 in (
      c.requires.0,
      record {
        inside = record { in_data_file = omega (arith, p.inside.in_data_file); in_delete_file = omega (arith, p.inside.in_delete_file); in_scheduled = omega (arith, p.inside.in_scheduled) };
        present = p.present;
        room = omega (arith, p.room, c.loop-at.invariant.0);
        within = omega arith;
      },
    )

pub loop-at-preserved : goal.loop-at-preserved
loop-at-preserved c =
    let a = c.args in
    let p = c.put_file_words.ensures in
    (p.0 ∙ c.loop-at.invariant.0, keys_more (λ k i. file_word a.files.data_files.now a.files.delete_files.now a.files.scheduled.now a.files.counts (shifted a.words k) i) (omega arith) p.1 c.loop-at.invariant.1)

pub returns : goal.returns
returns c =
    let a = c.args in
    (c.loop-at.invariant.0, keys_whole (λ k i. file_word a.files.data_files.now a.files.delete_files.now a.files.scheduled.now a.files.counts (shifted a.words k) i) (λ i k m h. c.loop-at.invariant.1 i k m (omega arith)))
