pub mod DeleteFiles
pub mod DeleteOrder
pub mod RowRanges
