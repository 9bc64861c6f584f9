-- How many columns a table has: where a column's life is its table's, those on record are those live at each snapshot where the table lives.
use Rattle.std.proofs.Common.{◌≡◌, ℕ, ◌-◌, Bool, true, not, ◌&&◌, ◌||◌, eqb, ltb, leb, List, length, sym, refl, ap, ◌∙◌, eqb-true}
use Rattle.lists.specs.Lists.{all, chained}
use Rattle.lists.specs.Runs.{field, fields, Together}
use Rattle.lists.proofs.Blocks.{filter_key}
use Rattle.lists.proofs.Loops.{from_length}
use Rattle.lists.proofs.Members.{In, all_in, in_all, any_in}
use Rattle.lists.proofs.Search.{keyed_one}
use Rattle.lists.proofs.Selections.{filter_ext, all_weaken}
use Rattle.lists.proofs.Tests.{if, both, or_right, same_test}
use Rattle.layout.specs.declared.outcome.Counts.{Counts}
use Rattle.layout.specs.Catalog.{absent, Versioned, Snapshot, Table, Column}
use Rattle.layout.specs.Fields.{table_size, table_id_word, column_size, column_table_word}
use Rattle.layout.specs.Words.{Words, load, table_at, tables_in, column_at, columns_in}
use Rattle.ducklake.specs.Liveness.{live, live_at_some, columns_at, latest_of}
use Rattle.ducklake.specs.Soundness.{life_sound, lives_sound, same_life, table_nests, column_nests, lives_nest, column_count_sound, column_counts_sound}
use Rattle.soundness_statistics.specs.Counted.{columns_on_record, is_column_count, columns_counted}

-- a table's columns stand together, so their number is the length of the block
pub counted_is : (columns names : List ℕ) (m : ℕ) (t : Versioned Table) {x a e : ℕ} → x ≡ t.id → Together (field column_size column_table_word columns) m x a e
    → is_column_count (e - a) ≡ columns_counted (columns_in columns names m) t
unfolding field columns_on_record columns_counted
counted_is columns names m t {x} {a} {e} k g =
    rw (← k) (sym (ap (λ cs. is_column_count (length cs)) (filter_key (column_at columns names) (λ c. c.body.table) x m a e g)
    ∙ ap is_column_count (from_length (column_at columns names) a e)))

-- of one life, live at the same snapshots
life_shared : {A B : Type 0} (s : ℕ) (a : Versioned A) (b : Versioned B) → same_life a b ≡ true → live s a ≡ live s b
unfolding same_life live
life_shared s a b h = let r = both _ _ h in rw (eqb-true a.begin b.begin r.0, eqb-true a.end b.end r.1) refl

module _ (tables names : List ℕ) (n : ℕ) (cs : List (Versioned Column)) (ns : List Snapshot)
    (ascend : chained ltb (fields table_size table_id_word tables n) ≡ true) (alive : all (live_at_some ns) (tables_in tables names n) ≡ true)
    (nest : all (column_nests (tables_in tables names n)) cs ≡ true) where
  abbrev ts : List (Versioned Table)
  ts = tables_in tables names n

  -- where a table is live all its columns are
  column_live_lem : (s : ℕ) (t : Versioned Table) (c : Versioned Column) → In t ts → In c cs → live s t ≡ true → eqb c.body.table t.id ≡ true → live s c ≡ true
  unfolding field column_nests
  column_live_lem s t c i j l e =
      let r = any_in (λ u. eqb u.id c.body.table && same_life u c) ts (all_in (column_nests ts) cs nest j) in
      let b = both (eqb r.0.id c.body.table) (same_life r.0 c) r.2 in
      let q : r.0 ≡ t = keyed_one (table_at tables names) (λ u. u.id) n ascend r.1 i (eqb-true _ _ b.0 ∙ eqb-true _ _ e) in
      sym (life_shared s r.0 c b.1) ∙ (ap (live s) q ∙ l)

  -- so its live columns are those on record
  live_columns : (s : ℕ) (t : Versioned Table) → In t ts → live s t ≡ true → columns_at cs s t.id ≡ columns_on_record cs t.id
  unfolding columns_at columns_on_record
  live_columns s t i l =
      filter_ext _ (λ c. eqb c.body.table t.id) cs (λ c j. if (eqb c.body.table t.id) (λ e. rw (e, column_live_lem s t c i j l e)) (λ e. rw e))

  sound_at : (s : ℕ) (t : Versioned Table) → In t ts → column_count_sound cs s t ≡ (not (live s t) || columns_counted cs t)
  unfolding column_count_sound columns_counted
  sound_at s t i = if (live s t) (λ l. rw (l, live_columns s t i l) refl) (λ l. rw l refl)

  -- a table has all its columns at each snapshot where it lives, and there is one
  counts_are : all (columns_counted cs) ts ≡ all (λ s. all (column_count_sound cs s.id) ts) ns
  unfolding live_at_some
  counts_are =
      same_test _ _
      (λ h. in_all _ ns (λ s k. in_all _ ts (λ t i. sound_at s.id t i ∙ or_right (not (live s.id t)) _ (all_in _ ts h i))))
      (λ h. in_all _ ts (λ t i. let r = any_in (λ s. live s.id t) ns (all_in (live_at_some ns) ts alive i) in
      rw r.2 at (sym (sound_at r.0.id t i) ∙ all_in (column_count_sound cs r.0.id) ts (all_in _ ns h r.1) i)))

-- a sound life is live at some retained snapshot
life_alive : {A : Type 0} (ns : List Snapshot) (v : Versioned A) → life_sound ns v ≡ true → live_at_some ns v ≡ true
unfolding life_sound
life_alive ns v h = (both (leb v.begin (latest_of ns).id && (eqb v.end absent || leb v.end (latest_of ns).id) && ltb v.begin v.end) _ h).1

-- the same of tables whose lives are sound and nest
pub counts_sound : (w : Words) (c : Counts) → chained ltb (fields table_size table_id_word w.tables c.tables) ≡ true → lives_sound (load w c) ≡ true
    → lives_nest (load w c) ≡ true
    → {r : Bool} → r ≡ all (columns_counted (columns_in w.columns w.column_names c.columns)) (tables_in w.tables w.table_names c.tables)
    → r ≡ column_counts_sound (load w c)
unfolding load lives_sound lives_nest column_counts_sound
counts_sound w c ascend lives nest e =
    let C = load w c in
    let l = both (all (life_sound C.snapshots) C.schemas) (all (life_sound C.snapshots) C.tables) (both _ _ (both _ _ (both _ _ lives).0).0).0 in
    let k = both (all (table_nests C.schemas) C.tables) (all (column_nests C.tables) C.columns) (both _ _ (both _ _ nest).0).0 in
    e ∙ counts_are w.tables w.table_names c.tables C.columns C.snapshots ascend (all_weaken (life_sound C.snapshots) (live_at_some C.snapshots) C.tables (life_alive C.snapshots) l.1) k.1
