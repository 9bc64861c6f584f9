pub mod Lent
pub mod Merges
pub mod RowLists
pub mod SoundRows
