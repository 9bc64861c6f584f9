-- A record nests where the record that it belongs to, found by its id, stands to it as the definition says: of that one only id and life are looked at.
use Prim.Native.Nat.{ℕ}
use mathlib.Core.Path.{◌≡◌, refl, ◌∙◌}
use mathlib.Core.Bool.{Bool, ◌&&◌, and_assoc}
use mathlib.Core.List.{List}
use lib.Dec.{eqb}
use Rattle.lists.specs.Lists.{range, any}
use Rattle.lists.specs.Runs.{field, at}
use Rattle.lists.proofs.Selections.{any_maps}
use Rattle.layout.specs.declared.number.CatalogId.{CatalogId}
use Rattle.layout.specs.declared.number.FileId.{FileId}
use Rattle.layout.specs.Fields.{schema_size, schema_id_word, schema_begin_word, table_size, table_id_word, table_begin_word, column_size, column_begin_word, data_file_size, data_file_begin_word, delete_file_size, delete_file_begin_word}
use Rattle.layout.specs.Records.{table_layout, column_layout, data_file_layout, delete_file_layout}
use Rattle.layout.specs.Words.{schema_at, schemas_in, table_at, tables_in, column_at, data_file_at, data_files_in, delete_file_at}
use Rattle.ducklake.specs.Soundness.{contains, same_life, table_nests, column_nests, data_file_nests, delete_file_nests}
use Rattle.lookup.specs.Versions.{life_at, with_life, version_at, versions_in}
use Rattle.lookup.specs.declared.life.Life.{Life}

pub table_held : (schemas s tables t : List ℕ) (n i : ℕ) {x : CatalogId} {l : Life} {b : Bool} → x ≡ (at table_layout tables i).schema → l ≡ life_at table_size table_begin_word tables i
    → b ≡ any (λ v. eqb v.id x.0 && contains v (with_life l)) (versions_in schema_size schema_id_word schema_begin_word schemas n) → b ≡ table_nests (schemas_in schemas s n) (table_at tables t i)
unfolding field contains table_nests
table_held schemas s tables t n i e f g = g ∙ rw (e, f) (any_maps _ _ (version_at schema_size schema_id_word schema_begin_word schemas) (schema_at schemas s) (range 0 n) (λ j. refl))

pub data_file_held : (tables t files : List ℕ) (n i : ℕ) {x : CatalogId} {l : Life} {b : Bool} → x ≡ (at data_file_layout files i).table → l ≡ life_at data_file_size data_file_begin_word files i
    → b ≡ any (λ v. eqb v.id x.0 && contains v (with_life l)) (versions_in table_size table_id_word table_begin_word tables n) → b ≡ data_file_nests (tables_in tables t n) (data_file_at files i)
unfolding field contains data_file_nests
data_file_held tables t files n i e f g = g ∙ rw (e, f) (any_maps _ _ (version_at table_size table_id_word table_begin_word tables) (table_at tables t) (range 0 n) (λ j. refl))

pub column_held : (tables t columns c : List ℕ) (n i : ℕ) {x : CatalogId} {l : Life} {b : Bool} → x ≡ (at column_layout columns i).table → l ≡ life_at column_size column_begin_word columns i
    → b ≡ any (λ v. eqb v.id x.0 && same_life v (with_life l)) (versions_in table_size table_id_word table_begin_word tables n) → b ≡ column_nests (tables_in tables t n) (column_at columns c i)
unfolding field same_life column_nests
column_held tables t columns c n i e f g = g ∙ rw (e, f) (any_maps _ _ (version_at table_size table_id_word table_begin_word tables) (table_at tables t) (range 0 n) (λ j. refl))

pub delete_file_held : (files deletes p : List ℕ) (n i : ℕ) {x : FileId} {y : CatalogId} {l : Life} {b : Bool}
    → x ≡ (at delete_file_layout deletes i).data_file → y ≡ (at delete_file_layout deletes i).table → l ≡ life_at delete_file_size delete_file_begin_word deletes i
    → b ≡ any (λ f. eqb f.id x.0 && (eqb f.body.table y.0 && contains f (with_life l))) (data_files_in files n) → b ≡ delete_file_nests (data_files_in files n) (delete_file_at deletes p i)
unfolding field contains delete_file_nests
delete_file_held files deletes p n i e f g h = h ∙ rw (e, f, g) (any_maps _ _ (data_file_at files) (data_file_at files) (range 0 n) (λ j. rw and_assoc refl))
