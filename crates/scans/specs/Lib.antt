pub mod Deletions
pub mod Filters
pub mod Lent
pub mod Readable
