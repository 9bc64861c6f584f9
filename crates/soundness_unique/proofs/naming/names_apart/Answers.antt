-- `names_apart` meets its contract: schemas, tables and columns are judged one after another.
use borrow.Author.Rules.{rules}
use mathlib.Core.Path.{ap₂, ◌∙◌}
use mathlib.Core.Bool.{◌&&◌}
use native.Mathlib.Omega.{arith}
use Rattle.layout.specs.Words.{load}
use Rattle.ducklake.specs.Soundness.{names_apart}
use Rattle.soundness_unique.proofs.NameKeys.{schemas_living, tables_living, columns_living, schemas_are, tables_are, columns_are}
use Rattle.soundness_unique.proofs.naming.names_apart.Goals as goal

pub names_apart_by-a-requires : goal.names_apart_by-a-requires
names_apart_by-a-requires c = (schemas_living c.requires.0, record { room = search rules; places = search rules; spare = search rules })

pub names_apart_by-b-requires : goal.names_apart_by-b-requires
names_apart_by-b-requires c = (tables_living c.requires.0, record { room = search rules; places = search rules; spare = search rules })

pub column_names_apart-c-requires : goal.column_names_apart-c-requires
column_names_apart-c-requires c =
    let p = c.requires.1 in
    let k = c.names_apart_by-a.auto in
    let l = c.names_apart_by-b.auto in (
      columns_living c.requires.0,
      record {
        room = omega (arith, p.columns, p.room, k.keys, l.keys);
        places = omega (arith, p.columns, p.places, k.w, l.w);
        spare = omega (arith, p.columns, p.spare, k.v, l.v);
      },
    )

pub orders_apart-d-requires : goal.orders_apart-d-requires
orders_apart-d-requires c =
    let p = c.requires.1 in
    let k = c.names_apart_by-a.auto in
    let l = c.names_apart_by-b.auto in
    let m = c.column_names_apart-c.auto in (
      (columns_living c.requires.0).living,
      record {
        room = omega (arith, p.columns, p.room, k.keys, l.keys, m.keys);
        places = omega (arith, p.columns, p.places, k.w, l.w, m.w);
        spare = omega (arith, p.columns, p.spare, k.v, l.v, m.v);
      },
    )

pub returns : goal.returns
unfolding names_apart load
returns c w p q r s t u =
    rw (p, q, r, s, t, u)
    (ap₂ ◌&&◌ (ap₂ ◌&&◌ (c.names_apart_by-a.ensures ∙ schemas_are _ _ _) (c.names_apart_by-b.ensures ∙ tables_are _ _ _))
    (ap₂ ◌&&◌ c.column_names_apart-c.ensures c.orders_apart-d.ensures ∙ columns_are _ _ _))
