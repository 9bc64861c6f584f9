-- `records_unsound` meets its contract: the lines in their order, each test where those before it are passed.
use Prim.Native.Nat.{ℕ}
use mathlib.Core.Path.{◌≡◌, refl, sym, ◌∙◌}
use mathlib.Core.Bool.{Bool, true}
use native.Mathlib.Omega.{arith}
use Rattle.lists.proofs.Tests.{and}
use Rattle.layout.specs.declared.outcome.Counts.{Counts}
use Rattle.layout.specs.Lent.{words_lent}
use Rattle.layout.specs.Words.{Words, load, snapshots_in, capacity, within}
use Rattle.ducklake.specs.Soundness.{fields_in_range, snapshots_rise, lives_sound, ids_ascend, first_unsound}
use Rattle.soundness.specs.Told.{Tells}
use Rattle.soundness.proofs.Lines.{Left, all_left, stops, goes_on, by_first, by_second}
use Rattle.soundness.proofs.TestPremises.{fields_lent, snapshots_lent_lem, lives_lent, ids_lent, numbered}
use Rattle.soundness.proofs.each_record.records_unsound.Goals.{Else-not-fields, Else-not-rise, Else-not-lives, Else-not-ascend}
use Rattle.soundness.proofs.each_record.records_unsound.Goals as goal

-- what the second test tells, said of the catalog
rise_is : (w : Words) (c : Counts) {r : Bool} → r ≡ snapshots_rise (snapshots_in w.snapshots c.snapshots) → r ≡ snapshots_rise (load w c).snapshots
unfolding load
rise_is w c e = e

-- the lines that are left when a test is made
module _ (w : Words) (c : Counts) (room : within c (capacity w) ≡ true) (fields : fields_in_range (load w c) ≡ true) where
  abbrev at_rise : Left (first_unsound w c)
  at_rise = goes_on (all_left w c) (and room fields)

  module _ (rise : snapshots_rise (load w c).snapshots ≡ true) where
    abbrev at_lives : Left (first_unsound w c)
    at_lives = goes_on at_rise rise

    module _ (lives : lives_sound (load w c) ≡ true) where
      abbrev at_order : Left (first_unsound w c)
      at_order = goes_on at_lives lives

      abbrev at_next_ids : ids_ascend (load w c) ≡ true → Left (first_unsound w c)
      at_next_ids ascend = goes_on at_order ascend

-- a line that fails is not 0
tells : (w : Words) (c : Counts) {line : ℕ} → (line ≡ 0 → ⊥) → line ≡ first_unsound w c → Tells w c line
tells w c n e = record { passes = λ p. absurd (n p); fails = λ _. e }

-- what a test that is passed tells those after it
fields_hold : (c : Else-not-fields) → fields_in_range (load (words_lent c.args.lent) c.args.counts) ≡ true
fields_hold c = sym (c.fields_in_range-fields.ensures _ refl refl refl refl refl refl refl refl refl refl refl) ∙ c.if-not-fields.false

rise_holds : (c : Else-not-rise) → snapshots_rise (load (words_lent c.args.lent) c.args.counts).snapshots ≡ true
rise_holds c = sym (rise_is (words_lent c.args.lent) c.args.counts c.snapshots_rise-rise.ensures) ∙ c.if-not-rise.false

lives_hold : (c : Else-not-lives) → lives_sound (load (words_lent c.args.lent) c.args.counts) ≡ true
lives_hold c = sym (c.lives_sound-lives.ensures _ refl refl refl refl refl refl) ∙ c.if-not-lives.false

ids_hold : (c : Else-not-ascend) → ids_ascend (load (words_lent c.args.lent) c.args.counts) ≡ true
ids_hold c = sym (c.ids_ascend-ascend.ensures _ refl refl refl refl refl refl) ∙ c.if-not-ascend.false

pub fields_in_range-fields-requires : goal.fields_in_range-fields-requires
fields_in_range-fields-requires c = fields_lent _ _ c.requires

pub returns-then-not-fields : goal.returns-then-not-fields
returns-then-not-fields c =
    tells _ _ (λ e. omega (arith, e)) (stops (all_left (words_lent c.args.lent) c.args.counts) (by_second c.requires (sym (c.fields_in_range-fields.ensures _ refl refl refl refl refl refl refl refl refl refl refl) ∙ c.if-not-fields.true)))

pub snapshots_rise-rise-requires : goal.snapshots_rise-rise-requires
snapshots_rise-rise-requires c = snapshots_lent_lem _ _ c.requires

pub returns-then-not-rise : goal.returns-then-not-rise
returns-then-not-rise c =
    let k = goal.at.returns-then-not-rise c in
    tells _ _ (λ e. omega (arith, e)) (stops (at_rise _ _ c.requires (fields_hold k.Else-not-fields)) (sym (rise_is (words_lent c.args.lent) c.args.counts c.snapshots_rise-rise.ensures) ∙ c.if-not-rise.true))

pub lives_sound-lives-requires : goal.lives_sound-lives-requires
lives_sound-lives-requires c =
    lives_lent _ _ c.requires (rise_holds (goal.at.lives_sound-lives-requires c).Else-not-rise)

pub returns-then-not-lives : goal.returns-then-not-lives
returns-then-not-lives c =
    let k = goal.at.returns-then-not-lives c in
    tells _ _ (λ e. omega (arith, e)) (stops (at_lives _ _ c.requires (fields_hold k.Else-not-fields) (rise_holds k.Else-not-rise)) (sym (c.lives_sound-lives.ensures _ refl refl refl refl refl refl) ∙ c.if-not-lives.true))

pub ids_ascend-ascend-requires : goal.ids_ascend-ascend-requires
ids_ascend-ascend-requires c = ids_lent _ _ c.requires

pub returns-then-not-ascend : goal.returns-then-not-ascend
returns-then-not-ascend c =
    let k = goal.at.returns-then-not-ascend c in
    tells _ _ (λ e. omega (arith, e)) (stops (at_order _ _ c.requires (fields_hold k.Else-not-fields) (rise_holds k.Else-not-rise) (lives_hold k.Else-not-lives)) (sym (c.ids_ascend-ascend.ensures _ refl refl refl refl refl refl) ∙ c.if-not-ascend.true))

pub ids_below_next-below-requires : goal.ids_below_next-below-requires
ids_below_next-below-requires c =
    let k = goal.at.ids_below_next-below-requires c in
    numbered _ _ c.requires (ids_hold k.Else-not-ascend) (rise_holds k.Else-not-rise)

pub returns-then-not-below : goal.returns-then-not-below
returns-then-not-below c =
    let k = goal.at.returns-then-not-below c in
    tells _ _ (λ e. omega (arith, e)) (stops (at_next_ids _ _ c.requires (fields_hold k.Else-not-fields) (rise_holds k.Else-not-rise) (lives_hold k.Else-not-lives) (ids_hold k.Else-not-ascend)) (by_first _ (sym (c.ids_below_next-below.ensures _ refl refl refl refl refl refl) ∙ c.if-not-below.true)))

pub returns : goal.returns
returns c =
    let k = goal.at.returns c in
    record {
      passes = λ _. record {
        room = c.requires;
        fields = fields_hold k.Else-not-fields;
        rise = rise_holds k.Else-not-rise;
        lives = lives_hold k.Else-not-lives;
        ascend = ids_hold k.Else-not-ascend;
        below = sym (c.ids_below_next-below.ensures _ refl refl refl refl refl refl) ∙ c.if-not-below.false;
      };
      fails = λ n. absurd (n refl);
    }
