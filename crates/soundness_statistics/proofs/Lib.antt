pub mod ColumnCounts
pub mod FileStatistics
