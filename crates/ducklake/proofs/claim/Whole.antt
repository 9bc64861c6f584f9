-- Demand 3, proved: a fresh catalogue has what every call keeps, and what every call keeps is the claim.
use Prim.Native.Nat.{ℕ, ◌+◌, ◌≤◌}
use mathlib.Core.Path.{◌≡◌, refl, sym, ap, ap₂, subst, ◌∙◌}
use mathlib.Core.List.{List, []}
use mathlib.Core.Bool.{true, false, not, cond, ◌&&◌, ◌||◌, or-false, and-true, and-false, false≢true}
use native.Mathlib.Omega.{arith}
use lib.Dec.{leb, ltb, eqb, leb-zero}
use borrow.Author.Tests.{leb-true, eqb-true, eqb-false, eq-eqb, le-ltb, le-leb}
use Rattle.lists.specs.Lists.{any, last, bit, count}
use Rattle.lists.proofs.Tests.{if, same_test}
use Rattle.lists.proofs.Members.{in_nil, all_nil}
use Rattle.layout.specs.declared.outcome.Counts.{Counts}
use Rattle.layout.specs.Catalog.{absent, number_limit, Catalog}
use Rattle.layout.specs.Words.{Words, load, store, counts_of, capacity, within, fits}
use Rattle.layout.proofs.RoundTrip.{load_store, fits_store}
use Rattle.ducklake.specs.Liveness.{retained, latest, is_live}
use Rattle.ducklake.specs.Soundness.{ids_of_files, file_ids}
use Rattle.ducklake.specs.Refusals.{accepted, id_of_table, no_such_id, refuse_unless}
use Rattle.ducklake.specs.Commits.{fresh_catalog}
use Rattle.ducklake.specs.Readings.{Query, files, rows}
use Rattle.ducklake.specs.Calls.{has_room, no_counts, perform_fresh}
use Rattle.ducklake.specs.Journal.{empty_journal}
use Rattle.ducklake.specs.Claim.{State, is_retained, reading_of, is_listed, run, fresh_state, Holds, Claim}
use Rattle.ducklake.proofs.facts.Facts.{Sound, reflects_ranges, reflects_rise, reflects_lives, reflects_ascend, reflects_files, reflects_nest, reflects_apart, reflects_deletes, reflects_rows, reflects_statistics, reflects_column_counts}
use Rattle.ducklake.proofs.commits.Moves.{latest_small_lem}
use Rattle.ducklake.proofs.commits.Good.{Chain}
use Rattle.ducklake.proofs.cases.Sessions.{passes}
use Rattle.ducklake.proofs.readings.Answers.{numbered, enough_room, no_room_lem, reading_is}
use Rattle.ducklake.proofs.claim.Retained.{Tally, retained_below}
use Rattle.ducklake.proofs.journal.Journals.{JournalOk}
use Rattle.ducklake.proofs.claim.Listed.{listed_count, file_ids_count, entry}
use Rattle.ducklake.proofs.claim.Tables.{named, catalog_of, Tables, sound_words, retained_is, listed_is, listed_anywhere_lem}
use Rattle.ducklake.proofs.claim.Histories.{Inv, Later, run_inv}

-- a fresh catalogue

fresh_sound : (time : ℕ) → Sound (fresh_catalog time)
unfolding passes
fresh_sound time =
    let F : Catalog = fresh_catalog time in
    record {
      ranges = (reflects_ranges F).to refl;
      rise = (reflects_rise F).to refl;
      lives = (reflects_lives F).to refl;
      ascend = (reflects_ascend F).to refl;
      files = (reflects_files F).to refl;
      nest = (reflects_nest F).to refl;
      apart = (reflects_apart F).to refl;
      deletes = (reflects_deletes F).to refl;
      rows = (reflects_rows F).to refl;
      statistics = (reflects_statistics F).to refl;
      column_counts = (reflects_column_counts F).to refl;
    }

no_counts_lem : (w : Words) → within no_counts (capacity w) ≡ true
unfolding within
no_counts_lem w = rw (z (capacity w).snapshots, z (capacity w).schemas, z (capacity w).tables, z (capacity w).columns, z (capacity w).data_files, z (capacity w).delete_files, z (capacity w).positions, z (capacity w).statistics, z (capacity w).scheduled)
  where
    z : (n : ℕ) → leb 0 n ≡ true
    z n = leb-zero n

zero_is : (s : ℕ) → (eqb 0 s || false) ≡ (leb s 0 && true)
zero_is s =
    or-false (eqb 0 s) ∙ (same_test (eqb 0 s) (leb s 0) (λ h. le-leb s 0 (omega (arith, eqb-true 0 s h))) (λ h. eq-eqb 0 s (omega (arith, leb-true s 0 h)))
    ∙ sym (and-true (leb s 0)))

module _ (time : ℕ) (w : Words) (c : Counts) (area : List ℕ) (h : (perform_fresh time w c area).number ≡ accepted) where
  abbrev F : Catalog
  F = fresh_catalog time

  sound_F : Sound F
  sound_F = fresh_sound time

  room : within (counts_of F) (capacity w) ≡ true
  unfolding perform_fresh has_room
  room = if (within (counts_of F) (capacity w)) (λ b. b) (λ b. let z : ◌≡◌ {A = ℕ} 2 0 = rw b at h in absurd (omega arith))

  abbrev S : State
  S = fresh_state time w c area

  words_are : S.words ≡ store w no_counts F
  unfolding fresh_state perform_fresh has_room
  words_are = rw room

  counts_are : S.counts ≡ counts_of F
  unfolding fresh_state perform_fresh has_room
  counts_are = rw room

  catalog_is : catalog_of S ≡ F
  catalog_is = ap₂ load words_are counts_are ∙ load_store w no_counts F (named sound_F)

  fresh_chain : Chain F
  unfolding fresh_catalog
  fresh_chain = record { covered = λ d m. in_nil m }

  fresh_journal : JournalOk F empty_journal
  unfolding fresh_catalog empty_journal is_live any last
  fresh_journal = record {
    now = refl;
    next_catalog_id = refl;
    next_file_id = refl;
    table_of_file = all_nil;
    first_row = all_nil;
    pages = λ s r k. record { present = refl; listed = λ e. absurd (false≢true e) };
    next_row = all_nil;
  }

  fresh_tally : Tally F []
  unfolding fresh_catalog retained any last
  fresh_tally = record { is = zero_is; old = all_nil }

  fresh_tables : Tables S
  unfolding fresh_state
  fresh_tables = record {
    fit = ap₂ fits words_are counts_are ∙ fits_store w no_counts F (named sound_F) (no_counts_lem w) room;
    sound = subst Sound (sym catalog_is) sound_F;
    chain = subst Chain (sym catalog_is) fresh_chain;
    journal = subst (λ C. JournalOk C empty_journal) (sym catalog_is) fresh_journal;
    tally = subst (λ C. Tally C []) (sym catalog_is) fresh_tally;
  }

  fresh_fallen : (k u : ℕ) → count (entry k u) F.scheduled ≡ 0
  unfolding fresh_catalog count
  fresh_fallen k u = refl

  fresh_files : (k : ℕ) → count (λ i. eqb i k) (file_ids F) ≡ bit (ltb k (latest F).next_file_id)
  unfolding fresh_catalog ids_of_files count last
  fresh_files k = rw (le-ltb k 0 (omega arith))

  pub fresh_inv : Inv S
  unfolding fresh_state count
  fresh_inv = record {
    tables = fresh_tables;
    fallen = λ k u. ap (λ C. count (entry k u) C.scheduled) catalog_is ∙ fresh_fallen k u;
    files = λ k. let a = ap (λ C. count (λ i. eqb i k) (file_ids C)) catalog_is in let b = ap (λ C. bit (ltb k (latest C).next_file_id)) catalog_is in
        omega (arith, fresh_files k);
  }

-- the claim

module _ (S S' : State) (I : Inv S) (I' : Inv S') (L : Later S S') where
  pub readings_stay_lem : (s : ℕ) (q : Query) → is_retained S s ≡ true → is_retained S' s ≡ true → reading_of S'.words S'.counts s q ≡ reading_of S.words S.counts s q
  readings_stay_lem s q h h' =
      let r = retained_is I.tables s ∙ h in
      let r' = retained_is I'.tables s ∙ h' in
      let l = retained_below I.tables.sound s r in
      reading_is S'.words S'.counts s q (sound_words I'.tables) r'
      ∙ (ap₂ numbered (L.stays.judged s r' l q accepted) (L.stays.answered s r' l q)
      ∙ sym (reading_is S.words S.counts s q (sound_words I.tables) r))

module _ (S : State) (I : Inv S) where
  rows_as_journaled_lem : (s table : ℕ) → is_retained S s ≡ true
      → reading_of S.words S.counts s (rows table)
      ≡ record { number = refuse_unless (no_such_id (catalog_of S) id_of_table table) (S.journal.page s table).present accepted; words = cond (S.journal.page s table).present (S.journal.page s table).rows [] }
  rows_as_journaled_lem s table h =
      let r = retained_is I.tables s ∙ h in
      let o = I.tables.journal.pages s r table in
      reading_is S.words S.counts s (rows table) (sound_words I.tables) r
      ∙ (if (is_live (catalog_of S).tables s table)
      (λ b. rw (o.present, b, o.listed b))
      (λ b. rw (o.present, b)))

  file_lists_as_journaled_lem : (s table : ℕ) → is_retained S s ≡ true
      → (reading_of S.words S.counts s (files table)).number ≡ refuse_unless (no_such_id (catalog_of S) id_of_table table) (S.journal.page s table).present accepted
  file_lists_as_journaled_lem s table h =
      let r = retained_is I.tables s ∙ h in
      ap (λ a. a.number) (reading_is S.words S.counts s (files table) (sound_words I.tables) r) ∙ rw (I.tables.journal.pages s r table).present

  pub file_ids_in_limit_lem : S.journal.next_file_id ≤ number_limit
  file_ids_in_limit_lem = omega (arith, I.tables.journal.next_file_id, (latest_small_lem I.tables.sound).next_file_id)

  pub files_placed_lem : (k : ℕ)
      → bit (is_listed S k && not (eqb k absent)) + count (λ x. eqb x.file k) (catalog_of S).scheduled + count (λ i. eqb i k) S.handed ≡ bit (ltb k S.journal.next_file_id)
  files_placed_lem k =
      let b = ap (λ n. bit (ltb k n)) I.tables.journal.next_file_id in
      if (eqb k absent)
      (λ e. let z : bit (ltb k S.journal.next_file_id) ≡ 0 = rw (le-ltb k S.journal.next_file_id (omega (arith, file_ids_in_limit_lem, eqb-true k absent e))) refl in
      rw (e, and-false) (omega (arith, file_ids_count (catalog_of S) k, I.files k)))
      (λ e. let a = ap bit (listed_is S I.tables k) in
      rw (e, and-true) (omega (arith, listed_count (catalog_of S) I.tables.sound k (eqb-false k absent e), file_ids_count (catalog_of S) k, I.files k)))

pub claim : Claim
claim time w c area h xs ys =
    let p = run_inv (fresh_state time w c area) xs (fresh_inv time w c area h) in
    let q = run_inv (run (fresh_state time w c area) xs) ys p.0 in
    holds (run (fresh_state time w c area) xs) (run (run (fresh_state time w c area) xs) ys) p.0 q.0 q.1
  where
    holds : (S S' : State) → Inv S → Inv S' → Later S S' → Holds S S'
    holds S S' I I' L = record {
      with_room = enough_room S'.words S'.counts;
      without_room = no_room_lem S'.words S'.counts;
      readings_stay = readings_stay_lem S S' I I' L;
      tables_retain = retained_is I'.tables;
      rows_as_journaled = rows_as_journaled_lem S' I';
      file_lists_as_journaled = file_lists_as_journaled_lem S' I';
      listed_anywhere = listed_anywhere_lem S' I'.tables;
      file_ids_in_limit = file_ids_in_limit_lem S' I';
      files_placed = files_placed_lem S' I';
      scheduled_as_fallen = I'.fallen;
    }
