-- `named_table_id` meets its contract: unsound tables, the first of its tests that isn't passed, or the id of the table that is found, which is the answer.
use Rattle.std.proofs.lemmas.Result.{err_from_is_err_and}
use mathlib.Core.Path.{refl, sym, ap, ◌∙◌}
use mathlib.Core.List.{◌∷◌, []}
use Rattle.lists.proofs.Runs.{record_fits}
use Rattle.layout.specs.Fields.{table_size}
use Rattle.layout.proofs.Refusals.{not_accepted}
use Rattle.refusals.proofs.Laws.{is_sound_lem, reading_unsound}
use Rattle.refusals.proofs.Tests.{◌then◌, done, reading_judged}
use Rattle.readings.proofs.Found.{snapshots_by_id, schemas_by_id_lem, tables_by_id_lem, table_names_lent_lem}
use Rattle.readings.proofs.Judged.{retained_as, schema_live_as}
use Rattle.listings.proofs.Answers.{named_answer, named_as}
use Rattle.listings.proofs.Naming.{named_found, named_first, named_inside, named_refused, named_passed}
use Rattle.listings.proofs.named.named_table_id.Goals as goal

pub returns-then-not-checked : goal.returns-then-not-checked
returns-then-not-checked c =
    record { refusal = λ l. reading_unsound _ _ l.checked _ c.if-not-checked.true; id = λ l. tt }

pub is_retained-there-requires : goal.is_retained-there-requires
is_retained-there-requires c = snapshots_by_id _ _ (is_sound_lem _ _ c.requires.checked c.if-not-checked.false) c.requires.snapshots

pub schema_is_live-live-requires : goal.schema_is_live-live-requires
schema_is_live-live-requires c = schemas_by_id_lem _ _ (is_sound_lem _ _ c.requires.checked c.if-not-checked.false) c.requires.schemas

pub returns-in_err-first_refused : goal.returns-in_err-first_refused
returns-in_err-first_refused c =
    let p = err_from_is_err_and c.from_residual.result c.from_residual.ensures.1 in
    rw (p.1, p.2) (record {
      refusal = λ l. let w = l.words in
          reading_judged w _ (is_sound_lem w _ l.checked c.if-not-checked.false) _ (named_refused _ _ c.is_name_argument-formed.result _ c.in_err-first_refused.ensures (not_accepted _))
          (retained_as w _ _ l.snapshots c.is_retained-there.ensures then λ _.
          schema_live_as w _ _ _ l.schemas (c.schema_is_live-live.ensures w.schema_names) then λ _.
          named_as w _ _ _ _ l.tables l.table_names c.is_name_argument-formed.ensures refl then λ _.
          done);
      id = λ l. tt;
    })

pub find_named_table-requires : goal.find_named_table-requires
find_named_table-requires c =
    let l = c.requires in
    let h = is_sound_lem _ _ l.checked c.if-not-checked.false in
    record { tables = (tables_by_id_lem _ _ h l.tables).lent; places = table_names_lent_lem _ _ h l.table_names }

pub table_id-requires : goal.table_id-requires
table_id-requires c =
    let a = c.args in
    let l = c.requires in
    record_fits table_size (named_inside a.tables.now a.names.now a.counts.tables a.s.0 a.schema.0 a.name.now c.in-Some.ensures refl)
    (tables_by_id_lem _ _ (is_sound_lem _ _ l.checked c.if-not-checked.false) l.tables).lent

pub returns-in-Some : goal.returns-in-Some
returns-in-Some c =
    let a = c.args in
    record {
      refusal = λ l. let w = l.words in
          reading_judged w _ (is_sound_lem w _ l.checked c.if-not-checked.false) _ (named_passed _ _ c.is_name_argument-formed.result _ c.in_ok-first_refused.ensures refl)
          (retained_as w _ _ l.snapshots c.is_retained-there.ensures then λ _.
          schema_live_as w _ _ _ l.schemas (c.schema_is_live-live.ensures w.schema_names) then λ _.
          named_as w _ _ _ _ l.tables l.table_names c.is_name_argument-formed.ensures (named_found _ _ _ _ c.in-Some.ensures) then λ _.
          done);
      id = λ l. named_answer _ _ _ _ _ l.tables l.table_names
          (named_first a.tables.now a.names.now a.counts.tables a.s.0 a.schema.0 a.name.now c.in-Some.ensures refl ∙ ap (λ k. k.0 ∷ []) (sym c.table_id.ensures));
    }

pub returns-in-None : goal.returns-in-None
returns-in-None c =
    record {
      refusal = λ l. let w = l.words in
          reading_judged w _ (is_sound_lem w _ l.checked c.if-not-checked.false) _ (named_passed _ _ c.is_name_argument-formed.result _ c.in_ok-first_refused.ensures refl)
          (retained_as w _ _ l.snapshots c.is_retained-there.ensures then λ _.
          schema_live_as w _ _ _ l.schemas (c.schema_is_live-live.ensures w.schema_names) then λ _.
          named_as w _ _ _ _ l.tables l.table_names c.is_name_argument-formed.ensures (named_found _ _ _ _ c.in-None.ensures) then λ _.
          done);
      id = λ l. tt;
    }
