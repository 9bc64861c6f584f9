-- What the comparison of names relies on, from fields in range and sound lives: names are names, and no life is empty.
use Prim.Native.Nat.{◌*◌, ◌≤◌}
use mathlib.Core.Path.{◌≡◌}
use mathlib.Core.Bool.{Bool, true, ◌&&◌, ◌||◌}
use mathlib.Core.List.{List}
use lib.Dec.{leb, ltb, eqb}
use lib.ListN.{length}
use Rattle.lists.specs.Lists.{all}
use Rattle.lists.proofs.Tests.{both}
use Rattle.lists.proofs.Selections.{all_weaken}
use Rattle.layout.specs.declared.outcome.Counts.{Counts}
use Rattle.layout.specs.Catalog.{absent, Versioned, Snapshot, Schema, Table, Column}
use Rattle.layout.specs.Fields.{schema_size, table_size, column_size}
use Rattle.layout.specs.Names.{name_size, is_name}
use Rattle.layout.specs.Types.{is_type}
use Rattle.layout.specs.Words.{Words, load}
use Rattle.ducklake.specs.Liveness.{latest_of, live_at_some}
use Rattle.ducklake.specs.Soundness.{in_limit, is_flag, snapshot_in_range, schema_in_range, table_in_range, column_in_range, data_file_in_range, delete_file_in_range, statistics_in_range, scheduled_in_range, fields_in_range, life_sound, lives_sound}
use Rattle.soundness_unique.specs.Comparable.{Named}

schema_named : (v : Versioned Schema) → schema_in_range v ≡ true → is_name v.body.name ≡ true
unfolding schema_in_range
schema_named v h = (both (in_limit v.id) (is_name v.body.name) h).1

table_named_lem : (v : Versioned Table) → table_in_range v ≡ true → is_name v.body.name ≡ true
unfolding table_in_range
table_named_lem v h = (both (in_limit v.id && in_limit v.body.schema && in_limit v.body.next_row_id) (is_name v.body.name) h).1

column_named : (v : Versioned Column) → column_in_range v ≡ true → is_name v.body.name ≡ true
unfolding column_in_range
column_named v h =
    (both (in_limit v.id && in_limit v.body.table && in_limit v.body.order && is_type v.body.type_code && is_flag v.body.nulls_allowed) (is_name v.body.name) h).1

lives : {A : Type 0} (ns : List Snapshot) (v : Versioned A) → life_sound ns v ≡ true → ltb v.begin v.end ≡ true
unfolding life_sound
lives ns v h =
    (both (leb v.begin (latest_of ns).id && (eqb v.end absent || leb v.end (latest_of ns).id)) (ltb v.begin v.end) (both _ (live_at_some ns v) h).0).1

-- the second, the third and the fourth of eight, and the first three of five
of_eight : (a b c d e f g h : Bool) → (a && b && c && d && e && f && g && h) ≡ true → (b ≡ true) × (c ≡ true) × (d ≡ true)
of_eight a b c d e f g h k =
    let l = (both (a && b && c && d) e (both (a && b && c && d && e) f (both (a && b && c && d && e && f) g (both (a && b && c && d && e && f && g) h k).0).0).0).0 in
    let m = both (a && b && c) d l in
    let n = both (a && b) c m.0 in
    ((both a b n.0).1, n.1, m.1)

of_five : (a b c d e : Bool) → (a && b && c && d && e) ≡ true → (a ≡ true) × (b ≡ true) × (c ≡ true)
of_five a b c d e k =
    let m = both (a && b) c (both (a && b && c) d (both (a && b && c && d) e k).0).0 in
    let n = both a b m.0 in
    (n.0, n.1, m.1)

module _ (w : Words) (c : Counts) (f : fields_in_range (load w c) ≡ true) (l : lives_sound (load w c) ≡ true) where
  in_range_lem : (all schema_in_range (load w c).schemas ≡ true) × (all table_in_range (load w c).tables ≡ true) × (all column_in_range (load w c).columns ≡ true)
  unfolding fields_in_range
  in_range_lem =
      let C = load w c in
      of_eight (all snapshot_in_range C.snapshots) (all schema_in_range C.schemas) (all table_in_range C.tables) (all column_in_range C.columns) (all data_file_in_range C.data_files)
      (all delete_file_in_range C.delete_files) (all statistics_in_range C.statistics) (all scheduled_in_range C.scheduled) f

  living : (all (life_sound (load w c).snapshots) (load w c).schemas ≡ true) × (all (life_sound (load w c).snapshots) (load w c).tables ≡ true)
      × (all (life_sound (load w c).snapshots) (load w c).columns ≡ true)
  unfolding lives_sound
  living =
      let C = load w c in
      let ns = C.snapshots in
      of_five (all (life_sound ns) C.schemas) (all (life_sound ns) C.tables) (all (life_sound ns) C.columns) (all (life_sound ns) C.data_files) (all (life_sound ns) C.delete_files) l

  -- of tables that are lent as far as they are used
  pub names_given : schema_size * c.schemas ≤ length w.schemas → name_size * c.schemas ≤ length w.schema_names
      → table_size * c.tables ≤ length w.tables → name_size * c.tables ≤ length w.table_names
      → column_size * c.columns ≤ length w.columns → name_size * c.columns ≤ length w.column_names
      → Named w.schemas w.schema_names w.tables w.table_names w.columns w.column_names c
  unfolding load
  names_given a b d e g h =
      let ns = (load w c).snapshots in
      record {
        schemas_lent = a;
        schema_names_lent = b;
        schemas_named = all_weaken schema_in_range (λ v. is_name v.body.name) _ schema_named in_range_lem.0;
        schemas_live = all_weaken (life_sound ns) (λ v. ltb v.begin v.end) _ (lives ns) living.0;
        tables_lent = d;
        table_names_lent = e;
        tables_named = all_weaken table_in_range (λ v. is_name v.body.name) _ table_named_lem in_range_lem.1;
        tables_live = all_weaken (life_sound ns) (λ v. ltb v.begin v.end) _ (lives ns) living.1;
        columns_lent = g;
        column_names_lent = h;
        columns_named = all_weaken column_in_range (λ v. is_name v.body.name) _ column_named in_range_lem.2;
        columns_live = all_weaken (life_sound ns) (λ v. ltb v.begin v.end) _ (lives ns) living.2;
      }
