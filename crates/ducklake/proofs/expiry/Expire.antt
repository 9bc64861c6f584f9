-- Expiry and cleanup leave sound tables, and lose no file number.
use Prim.Native.Nat.{ℕ, ◌+◌, ◌≤◌}
use mathlib.Core.Path.{◌≡◌, refl, sym, ◌∙◌}
use mathlib.Core.List.{List, ◌++◌, map}
use mathlib.Core.Bool.{Bool, true, not}
use native.Mathlib.Omega.{arith}
use lib.Dec.{eqb}
use Rattle.lists.specs.Lists.{has, filter, count, sort_by}
use Rattle.lists.proofs.Tests.{reflects_eqb}
use Rattle.lists.proofs.Members.{In, All, each, in_filter, in_filter_of, in_any, reflects_any, all_map, all_append, all_filter, all_kept, pair_filter}
use Rattle.lists.proofs.Selections.{last_kept}
use Rattle.lists.proofs.Counts.{count-append, count_map, count_sort, count_split}
use Rattle.lists.proofs.Orders.{all_sort}
use Rattle.layout.specs.declared.record.Uuid.{Uuid}
use Rattle.layout.specs.Catalog.{absent, Versioned, Scheduled, Catalog}
use Rattle.ducklake.specs.Liveness.{live, live_at_some, no_snapshot, latest, latest_id, columns_at}
use Rattle.ducklake.specs.Soundness.{uuids_of_files, ids_of_files, scheduled_in_range, file_ids, file_uuids, same_uuid, file_statistics, statistics_wanted, file_statistics_sound}
use Rattle.ducklake.specs.Maintenance.{scheduled_file, removed, expire, cleanup, due}
use Rattle.ducklake.proofs.facts.Facts.{Ranges, Rise, Life, Lives, Ascend, Files, Nest, Apart, Deletes, Rows, FileStatistics, ColumnCounts, Sound}
use Rattle.ducklake.proofs.commits.Moves.{latest_small_lem, latest_in_lem, open_live}
use Rattle.ducklake.proofs.expiry.Kept.{remains, staying, kept, statistics_kept, data_small, delete_small, life_holds, same_home, home_stays, columns_stay, wanted_stay, statistics_stay_lem}

-- records that leave two tables for the scheduled one are counted there
moved_count : {A B K : Type 0} (q : K → Bool) (key : Scheduled → K) (f : A → Scheduled) (g : B → Scheduled) (p : A → Bool) (r : B → Bool) (xs : List A) (ys : List B) (zs : List Scheduled)
    → count q (map (λ x. key (f x)) (filter p xs) ++ (map (λ y. key (g y)) (filter r ys)
    ++ map key (zs ++ sort_by (λ z. z.file) (map f (filter (λ x. not (p x)) xs) ++ map g (filter (λ y. not (r y)) ys)))))
    ≡ count q (map (λ x. key (f x)) xs ++ (map (λ y. key (g y)) ys ++ map key zs))
moved_count q key f g p r xs ys zs =
    simp (count-append, count_map, count_sort)
    (omega (arith, count_split (λ x. q (key (f x))) p xs, count_split (λ y. q (key (g y))) r ys))

module _ (C : Catalog) (S : Sound C) (ids : List ℕ) (time : ℕ) (stays : not (has (latest_id C) ids) ≡ true) where
  pub expire_latest : latest (expire C ids time) ≡ latest C
  unfolding expire
  expire_latest = last_kept (remains ids) no_snapshot C.snapshots stays

  latest_stays : In (latest C) (staying C ids)
  latest_stays = in_filter (remains ids) C.snapshots (latest_in_lem S) stays

  -- an open record is live at the latest snapshot
  pub open_kept : {A : Type 0} (v : Versioned A) → Life C v → v.end ≡ absent → kept C ids v ≡ true
  unfolding live_at_some
  open_kept v o e = in_any (λ n. live n.id v) latest_stays (open_live v (omega (arith, (latest_small_lem S).id)) o e)

  pub expire_count : (k : ℕ) → count (λ i. eqb i k) (file_ids (expire C ids time)) ≡ count (λ i. eqb i k) (file_ids C)
  unfolding expire ids_of_files
  expire_count k =
      moved_count (λ i. eqb i k) (λ x. x.file) (scheduled_file (λ f. f.uuid) time) (scheduled_file (λ d. d.uuid) time)
      (kept C ids) (kept C ids) C.data_files C.delete_files C.scheduled

  uuid_count : (u : Uuid) → count (λ i. same_uuid i u) (file_uuids (expire C ids time)) ≡ count (λ i. same_uuid i u) (file_uuids C)
  unfolding expire uuids_of_files
  uuid_count u =
      moved_count (λ i. same_uuid i u) (λ x. x.uuid) (scheduled_file (λ f. f.uuid) time) (scheduled_file (λ d. d.uuid) time)
      (kept C ids) (kept C ids) C.data_files C.delete_files C.scheduled

  expire_ranges : Ranges (expire C ids time)
  unfolding expire scheduled_in_range
  expire_ranges = record {
    snapshots = all_kept (remains ids) S.ranges.snapshots;
    schemas = all_kept (kept C ids) S.ranges.schemas;
    tables = all_kept (kept C ids) S.ranges.tables;
    columns = all_kept (kept C ids) S.ranges.columns;
    data_files = all_kept (kept C ids) S.ranges.data_files;
    delete_files = all_kept (kept C ids) S.ranges.delete_files;
    statistics = all_kept (statistics_kept C ids) S.ranges.statistics;
    scheduled = all_append S.ranges.scheduled (all_sort (λ x. x.file) (all_append
        (all_map (scheduled_file (λ f. f.uuid) time) (removed (staying C ids) C.data_files) (λ f m. data_small f (S.ranges.data_files.at f (in_filter_of (λ v. not (kept C ids v)) C.data_files m).0)))
        (all_map (scheduled_file (λ d. d.uuid) time) (removed (staying C ids) C.delete_files) (λ d m. delete_small d (S.ranges.delete_files.at d (in_filter_of (λ v. not (kept C ids v)) C.delete_files m).0)))));
  }

  expire_rise : Rise (expire C ids time)
  expire_rise = record {
    some = unfold expire in in_any (λ n. true) latest_stays refl;
    ascend = unfold expire in pair_filter (remains ids) S.rise.ascend;
    kinds = rw expire_latest (unfold expire in all_kept (remains ids) S.rise.kinds);
  }

  lives_stay : {A : Type 0} {vs : List (Versioned A)} → All (Life C) vs → All (Life (expire C ids time)) (filter (kept C ids) vs)
  lives_stay {vs = vs} o = all_filter (kept C ids) vs (λ v m h. let r = o.at v m in
      record { begun = rw (latest_id, expire_latest) r.begun; ended = rw (latest_id, expire_latest) r.ended; runs = r.runs; lives = unfold expire in h })

  expire_lives : Lives (expire C ids time)
  expire_lives = unfold expire in record {
    schemas = lives_stay S.lives.schemas;
    tables = lives_stay S.lives.tables;
    columns = lives_stay S.lives.columns;
    data_files = lives_stay S.lives.data_files;
    delete_files = lives_stay S.lives.delete_files;
  }

  expire_ascend : Ascend (expire C ids time)
  unfolding expire
  expire_ascend = record {
    schemas = pair_filter (kept C ids) S.ascend.schemas;
    tables = pair_filter (kept C ids) S.ascend.tables;
    data_files = pair_filter (kept C ids) S.ascend.data_files;
    delete_files = pair_filter (kept C ids) S.ascend.delete_files;
    columns = pair_filter (kept C ids) S.ascend.columns;
    statistics = pair_filter (statistics_kept C ids) S.ascend.statistics;
  }

  expire_files : Files (expire C ids time)
  expire_files = record {
    schemas_below = rw expire_latest (unfold expire in all_kept (kept C ids) S.files.schemas_below);
    tables_below = rw expire_latest (unfold expire in all_kept (kept C ids) S.files.tables_below);
    ids = λ k. rw (expire_latest, expire_count k) (S.files.ids k);
    uuids = λ u. rw (uuid_count u) (S.files.uuids u);
  }

  expire_nest : Nest (expire C ids time)
  unfolding expire
  expire_nest = record {
    tables = all_filter (kept C ids) C.tables (λ t m k. let h = S.nest.tables.at t m in home_stays C S ids t k h h.2.holds);
    columns = all_filter (kept C ids) C.columns (λ c m k. let h = S.nest.columns.at c m in home_stays C S ids c k h (life_holds h.2.life));
    data_files = all_filter (kept C ids) C.data_files (λ f m k. let h = S.nest.data_files.at f m in home_stays C S ids f k h h.2.holds);
    delete_files = all_filter (kept C ids) C.delete_files (λ d m k. let h = S.nest.delete_files.at d m in home_stays C S ids d k h h.2.holds);
  }

  expire_apart : Apart (expire C ids time)
  unfolding expire
  expire_apart = record {
    schemas = pair_filter (kept C ids) S.apart.schemas;
    tables = pair_filter (kept C ids) S.apart.tables;
    columns = pair_filter (kept C ids) S.apart.columns;
  }

  expire_deletes : Deletes (expire C ids time)
  unfolding expire
  expire_deletes = record {
    apart = pair_filter (kept C ids) S.deletes.apart;
    positions = all_filter (kept C ids) C.delete_files (λ d m k.
        let r = S.deletes.positions.at d m in
        let h = S.nest.delete_files.at d m in
        let p = r.home in
        record { some = r.some; ascend = r.ascend; home = home_stays C S ids d k p (same_home d S.ascend.data_files h.1 p.1 (h.2.same ∙ sym p.2.same) h.2.holds) });
  }

  expire_rows : Rows (expire C ids time)
  unfolding expire
  expire_rows = record {
    before = pair_filter (kept C ids) S.rows.before;
    within = all_filter (kept C ids) C.data_files (λ f m k.
        let p = S.rows.within.at f m in
        let h = S.nest.data_files.at f m in
        home_stays C S ids f k p (same_home f S.ascend.tables h.1 p.1 (h.2.same ∙ sym p.2.same) h.2.holds));
  }

  expire_statistics : FileStatistics (expire C ids time)
  unfolding expire file_statistics_sound
  expire_statistics = record {
    each = all_filter (kept C ids) C.data_files (λ f m k. rw (wanted_stay C S ids time f m k, statistics_stay_lem C S ids time f m k) (S.statistics.each.at f m));
    on_file = all_filter (statistics_kept C ids) C.statistics (λ x m k.
        (reflects_any (λ f. reflects_eqb f.id x.data_file) (filter (kept C ids) C.data_files)).to k);
  }

  expire_column_counts : ColumnCounts (expire C ids time)
  unfolding expire
  expire_column_counts = each (λ n i. all_filter (kept C ids) C.tables (λ t m k.
      let r = (S.column_counts.at n (in_filter_of (remains ids) C.snapshots i).0).at t m in
      let e = columns_stay C S ids time n.id t.id (λ c j q l. unfold live_at_some in in_any (λ n. live n.id c) i l) in
      record { least = λ l. rw e (r.least l); most = λ l. rw e (r.most l) }))

  pub expire_sound : Sound (expire C ids time)
  expire_sound = record {
    ranges = expire_ranges;
    rise = expire_rise;
    lives = expire_lives;
    ascend = expire_ascend;
    files = expire_files;
    nest = expire_nest;
    apart = expire_apart;
    deletes = expire_deletes;
    rows = expire_rows;
    statistics = expire_statistics;
    column_counts = expire_column_counts;
  }

-- a cleanup counts out what is due
due_count : {K : Type 0} (q : K → Bool) (key : Scheduled → K) (js ks : List K) (t : ℕ) (zs : List Scheduled)
    → count q (js ++ (ks ++ map key (filter (λ z. not (due t z)) zs))) + count q (map key (filter (due t) zs)) ≡ count q (js ++ (ks ++ map key zs))
due_count q key js ks t zs = simp (count-append, count_map) (omega (arith, count_split (λ z. q (key z)) (due t) zs))

pub cleanup_count : (C : Catalog) (t k : ℕ) → count (λ i. eqb i k) (file_ids (cleanup C t)) + count (λ i. eqb i k) (map (λ x. x.file) (filter (due t) C.scheduled)) ≡ count (λ i. eqb i k) (file_ids C)
unfolding cleanup ids_of_files
cleanup_count C t k = due_count (λ i. eqb i k) (λ x. x.file) (map (λ f. f.id) C.data_files) (map (λ d. d.id) C.delete_files) t C.scheduled

module _ (C : Catalog) (S : Sound C) (t : ℕ) where
  due_uuids : (u : Uuid) → count (λ i. same_uuid i u) (file_uuids (cleanup C t)) ≤ 1
  unfolding cleanup uuids_of_files
  due_uuids u =
      let e = due_count (λ i. same_uuid i u) (λ x. x.uuid) (map (λ f. f.body.uuid) C.data_files) (map (λ d. d.body.uuid) C.delete_files) t C.scheduled in
      omega (arith, S.files.uuids u)

  same_lives : {A : Type 0} {vs : List (Versioned A)} → All (Life C) vs → All (Life (cleanup C t)) vs
  unfolding cleanup
  same_lives o = each (λ v m. let r = o.at v m in record { begun = r.begun; ended = r.ended; runs = r.runs; lives = r.lives })

  pub cleanup_sound : Sound (cleanup C t)
  unfolding cleanup columns_at file_statistics statistics_wanted file_statistics_sound
  cleanup_sound = record {
    ranges = let r = S.ranges in record {
      snapshots = r.snapshots;
      schemas = r.schemas;
      tables = r.tables;
      columns = r.columns;
      data_files = r.data_files;
      delete_files = r.delete_files;
      statistics = r.statistics;
      scheduled = all_kept (λ x. not (due t x)) r.scheduled;
    };
    rise = record { some = S.rise.some; ascend = S.rise.ascend; kinds = S.rise.kinds };
    lives = let r = S.lives in record {
      schemas = same_lives r.schemas;
      tables = same_lives r.tables;
      columns = same_lives r.columns;
      data_files = same_lives r.data_files;
      delete_files = same_lives r.delete_files;
    };
    ascend = let r = S.ascend in record {
      schemas = r.schemas;
      tables = r.tables;
      data_files = r.data_files;
      delete_files = r.delete_files;
      columns = r.columns;
      statistics = r.statistics;
    };
    files = let r = S.files in record {
      schemas_below = r.schemas_below;
      tables_below = r.tables_below;
      ids = λ k. omega (arith, cleanup_count C t k, r.ids k);
      uuids = due_uuids;
    };
    nest = let r = S.nest in record { tables = r.tables; columns = r.columns; data_files = r.data_files; delete_files = r.delete_files };
    apart = record { schemas = S.apart.schemas; tables = S.apart.tables; columns = S.apart.columns };
    deletes = record {
      apart = S.deletes.apart;
      positions = each (λ d m. let r = S.deletes.positions.at d m in record { some = r.some; ascend = r.ascend; home = r.home });
    };
    rows = record { before = S.rows.before; within = S.rows.within };
    statistics = record { each = S.statistics.each; on_file = S.statistics.on_file };
    column_counts = each (λ n i. each (λ v m. let r = (S.column_counts.at n i).at v m in record { least = r.least; most = r.most }));
  }
