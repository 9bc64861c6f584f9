pub mod Lent
pub mod Readable
pub mod Rows
