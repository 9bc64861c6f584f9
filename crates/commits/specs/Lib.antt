pub mod LentRecords
pub mod Written
