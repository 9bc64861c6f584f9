pub mod Deletes
pub mod Rows
