-- `relations_unsound` meets its contract: the lines in their order, each test where those before it are passed.
use mathlib.Core.Path.{◌≡◌, refl, sym, ◌∙◌}
use mathlib.Core.Bool.{true, ◌&&◌}
use Rattle.lists.proofs.Tests.{passed, failed, and}
use Rattle.layout.specs.declared.outcome.Counts.{Counts}
use Rattle.layout.specs.Lent.{words_lent}
use Rattle.layout.specs.Words.{Words, load}
use Rattle.ducklake.specs.Soundness.{files_distinct, lives_nest, names_apart, positions_add_up, deletes_sound, row_ranges_sound, statistics_sound, first_unsound}
use Rattle.soundness.specs.Scratch.{RecordsHold}
use Rattle.soundness.proofs.Lines.{Left, all_left, stops, goes_on, ends, by_second}
use Rattle.soundness.proofs.TestPremises.{nestable, statistics_checkable, tables_and_columns}
use Rattle.soundness.proofs.relations.relations_unsound.Goals.{Else-not-compared, Else-not-nest, Else-not-compared-2, Else-not-compared-3, Else-not-compared-4, Else-not-covered}
use Rattle.soundness.proofs.relations.relations_unsound.Goals as goal

-- the lines that are left when a test is made
module _ (w : Words) (c : Counts) (r : RecordsHold w c) where
  abbrev at_next_ids : Left (first_unsound w c)
  at_next_ids = goes_on (goes_on (goes_on (goes_on (all_left w c) (and r.room r.fields)) r.rise) r.lives) r.ascend

  module _ (distinct : files_distinct (load w c) ≡ true) where
    abbrev at_nesting : Left (first_unsound w c)
    at_nesting = goes_on at_next_ids (and r.below distinct)

    module _ (nest : lives_nest (load w c) ≡ true) where
      abbrev at_names : Left (first_unsound w c)
      at_names = goes_on at_nesting nest

      module _ (apart : names_apart (load w c) ≡ true) where
        abbrev at_deletes : Left (first_unsound w c)
        at_deletes = goes_on at_names apart

        module _ (deletes : (positions_add_up w c && deletes_sound (load w c)) ≡ true) where
          abbrev at_rows : Left (first_unsound w c)
          at_rows = goes_on at_deletes deletes

          module _ (rows : row_ranges_sound (load w c) ≡ true) where
            abbrev at_statistics : Left (first_unsound w c)
            at_statistics = goes_on at_rows rows

            abbrev at_columns : statistics_sound (load w c) ≡ true → Left (first_unsound w c)
            at_columns covered = goes_on at_statistics covered

-- what a test that is passed tells those after it
distinct_hold : (c : Else-not-compared) → files_distinct (load (words_lent c.args.lent) c.args.counts) ≡ true
distinct_hold c = passed c.requires.1.distinct c.if-not-compared.false

nest_holds : (c : Else-not-nest) → lives_nest (load (words_lent c.args.lent) c.args.counts) ≡ true
nest_holds c = sym (c.lives_nest-nest.ensures _ refl refl refl refl refl) ∙ c.if-not-nest.false

apart_holds : (c : Else-not-compared-2) → names_apart (load (words_lent c.args.lent) c.args.counts) ≡ true
apart_holds c = passed c.requires.1.apart c.if-not-compared-2.false

deletes_hold : (c : Else-not-compared-3)
    → (positions_add_up (words_lent c.args.lent) c.args.counts && deletes_sound (load (words_lent c.args.lent) c.args.counts)) ≡ true
deletes_hold c = passed c.requires.1.deletes c.if-not-compared-3.false

rows_hold : (c : Else-not-compared-4) → row_ranges_sound (load (words_lent c.args.lent) c.args.counts) ≡ true
rows_hold c = passed c.requires.1.rows c.if-not-compared-4.false

covered_holds : (c : Else-not-covered) → statistics_sound (load (words_lent c.args.lent) c.args.counts) ≡ true
covered_holds c = sym (c.statistics_sound-covered.ensures _ refl refl refl) ∙ c.if-not-covered.false

pub returns-then-not-compared : goal.returns-then-not-compared
returns-then-not-compared c =
    stops (at_next_ids (words_lent c.args.lent) c.args.counts c.requires.0) (by_second c.requires.0.below (failed c.requires.1.distinct c.if-not-compared.true))

pub lives_nest-nest-requires : goal.lives_nest-nest-requires
lives_nest-nest-requires c = nestable _ _ c.requires.0.room c.requires.0.ascend

pub returns-then-not-nest : goal.returns-then-not-nest
returns-then-not-nest c =
    let k = goal.at.returns-then-not-nest c in
    stops (at_nesting (words_lent c.args.lent) c.args.counts c.requires.0 (distinct_hold k.Else-not-compared))
    (sym (c.lives_nest-nest.ensures _ refl refl refl refl refl) ∙ c.if-not-nest.true)

pub returns-then-not-compared-2 : goal.returns-then-not-compared-2
returns-then-not-compared-2 c =
    let k = goal.at.returns-then-not-compared-2 c in
    stops (at_names (words_lent c.args.lent) c.args.counts c.requires.0 (distinct_hold k.Else-not-compared) (nest_holds k.Else-not-nest))
    (failed c.requires.1.apart c.if-not-compared-2.true)

pub returns-then-not-compared-3 : goal.returns-then-not-compared-3
returns-then-not-compared-3 c =
    let k = goal.at.returns-then-not-compared-3 c in
    stops (at_deletes (words_lent c.args.lent) c.args.counts c.requires.0 (distinct_hold k.Else-not-compared) (nest_holds k.Else-not-nest) (apart_holds k.Else-not-compared-2))
    (failed c.requires.1.deletes c.if-not-compared-3.true)

pub returns-then-not-compared-4 : goal.returns-then-not-compared-4
returns-then-not-compared-4 c =
    let k = goal.at.returns-then-not-compared-4 c in
    stops (at_rows (words_lent c.args.lent) c.args.counts c.requires.0 (distinct_hold k.Else-not-compared) (nest_holds k.Else-not-nest) (apart_holds k.Else-not-compared-2)
    (deletes_hold k.Else-not-compared-3))
    (failed c.requires.1.rows c.if-not-compared-4.true)

pub statistics_sound-covered-requires : goal.statistics_sound-covered-requires
statistics_sound-covered-requires c = statistics_checkable _ _ c.requires.0.room c.requires.0.ascend

pub returns-then-not-covered : goal.returns-then-not-covered
returns-then-not-covered c =
    let k = goal.at.returns-then-not-covered c in
    stops (at_statistics (words_lent c.args.lent) c.args.counts c.requires.0 (distinct_hold k.Else-not-compared) (nest_holds k.Else-not-nest) (apart_holds k.Else-not-compared-2)
    (deletes_hold k.Else-not-compared-3) (rows_hold k.Else-not-compared-4))
    (sym (c.statistics_sound-covered.ensures _ refl refl refl) ∙ c.if-not-covered.true)

pub column_counts_sound-few-requires : goal.column_counts_sound-few-requires
column_counts_sound-few-requires c = tables_and_columns _ _ c.requires.0.room c.requires.0.ascend

pub returns-then-not-few : goal.returns-then-not-few
returns-then-not-few c =
    let k = goal.at.returns-then-not-few c in
    stops (at_columns (words_lent c.args.lent) c.args.counts c.requires.0 (distinct_hold k.Else-not-compared) (nest_holds k.Else-not-nest) (apart_holds k.Else-not-compared-2)
    (deletes_hold k.Else-not-compared-3) (rows_hold k.Else-not-compared-4) (covered_holds k.Else-not-covered))
    (sym (c.column_counts_sound-few.ensures _ refl refl c.requires.0.lives (nest_holds k.Else-not-nest)) ∙ c.if-not-few.true)

pub returns : goal.returns
returns c =
    let k = goal.at.returns c in
    ends (goes_on (at_columns (words_lent c.args.lent) c.args.counts c.requires.0 (distinct_hold k.Else-not-compared) (nest_holds k.Else-not-nest) (apart_holds k.Else-not-compared-2)
    (deletes_hold k.Else-not-compared-3) (rows_hold k.Else-not-compared-4) (covered_holds k.Else-not-covered))
    (sym (c.column_counts_sound-few.ensures _ refl refl c.requires.0.lives (nest_holds k.Else-not-nest)) ∙ c.if-not-few.false)) refl
