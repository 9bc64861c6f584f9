-- A good change leaves sound tables.
use Rattle.layout.specs.Catalog.{Catalog}
use Rattle.ducklake.specs.Commits.{Change, commit}
use Rattle.ducklake.proofs.facts.Facts.{Sound}
use Rattle.ducklake.proofs.commits.Good.{Good}
pub use Rattle.ducklake.proofs.commits.Numbers.{commit_latest, next_small, commit_count}
use Rattle.ducklake.proofs.commits.Ranges.{commit_ranges, commit_rise, commit_ascend, commit_files}
use Rattle.ducklake.proofs.commits.Lives.{commit_lives, commit_nest}
use Rattle.ducklake.proofs.commits.Apart.{commit_apart, commit_deletes, commit_rows}
use Rattle.ducklake.proofs.commits.Statistics.{commit_statistics, commit_column_counts}

pub commit_sound : (C : Catalog) (d : Change) → Sound C → Good C d → Sound (commit C d)
commit_sound C d S G = record {
  ranges = commit_ranges C d S G;
  rise = commit_rise C d S G;
  lives = commit_lives C d S G;
  ascend = commit_ascend C d S G;
  files = commit_files C d S G;
  nest = commit_nest C d S G;
  apart = commit_apart C d S G;
  deletes = commit_deletes C d S G;
  rows = commit_rows C d S G;
  statistics = commit_statistics C d S G;
  column_counts = commit_column_counts C d S G;
}
