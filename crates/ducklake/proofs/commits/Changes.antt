-- Every commit that passes its tests makes a good change.
use mathlib.Core.Path.{◌≡◌}
use mathlib.Core.Bool.{true}
use native.Mathlib.Omega.{arith}
use Rattle.layout.specs.declared.outcome.Terms.{Terms}
use Rattle.layout.specs.Catalog.{Catalog}
use Rattle.ducklake.specs.Refusals.{not_live, time_falls, bad_name, name_taken, schema_not_empty, bad_columns, bad_record_count, uuid_taken, bad_statistics, bad_positions, already_deleted}
use Rattle.ducklake.specs.Commits.{Commit, create_schema, create_table, insert, delete, drop_table, drop_schema, change_of, numbers_fit}
use Rattle.ducklake.specs.Calls.{refusals}
use Rattle.ducklake.proofs.facts.Facts.{Sound}
use Rattle.ducklake.proofs.facts.FirstRefusals.{NumberedFrom, AllPassed}
use Rattle.ducklake.proofs.commits.Good.{Good, Chain}
use Rattle.ducklake.proofs.commits.Creates.{create_schema_good, create_table_good}
use Rattle.ducklake.proofs.commits.Inserts.{insert_good}
use Rattle.ducklake.proofs.commits.Removals.{delete_good, drop_table_good, drop_schema_good}

pub numbered : (C : Catalog) (terms : Terms) (k : Commit) → NumberedFrom 1 (refusals C terms k)
numbered C terms (create_schema name) = omega arith
numbered C terms (create_table schema name columns names) = omega arith
numbered C terms (insert table record_count uuid statistics) = omega arith
numbered C terms (delete data_file uuid positions) = omega arith
numbered C terms (drop_table table) = omega arith
numbered C terms (drop_schema schema) = omega arith

pub change_good : (C : Catalog) → Sound C → Chain C → (terms : Terms) (k : Commit) → AllPassed (refusals C terms k) → numbers_fit C (change_of C terms.time k) ≡ true
    → Good C (change_of C terms.time k)
change_good C S H terms k h n = good k h n
  where
    good : (k : Commit) → AllPassed (refusals C terms k) → numbers_fit C (change_of C terms.time k) ≡ true → Good C (change_of C terms.time k)
    good (create_schema name) p n = create_schema_good C S terms.time name (p time_falls) (p bad_name) (p name_taken) n
    good (create_table schema name columns names) p n =
        create_table_good C S terms.time name (p time_falls) (p bad_name) schema columns names (p not_live) (p name_taken) (p bad_columns) n
    good (insert table record_count uuid statistics) p n =
        insert_good C S terms.time (p time_falls) table record_count uuid statistics (p not_live) (p bad_record_count) (p uuid_taken) (p bad_statistics) n
    good (delete data_file uuid positions) p n =
        delete_good C S terms.time (p time_falls) H data_file uuid positions (p not_live) (p uuid_taken) (p bad_positions) (p already_deleted) n
    good (drop_table table) p n = drop_table_good C S terms.time (p time_falls) table (p not_live) n
    good (drop_schema schema) p n = drop_schema_good C S terms.time (p time_falls) schema (p not_live) (p schema_not_empty) n
