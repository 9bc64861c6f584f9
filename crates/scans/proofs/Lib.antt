pub mod Answers
pub mod Columns
pub mod FileLists
pub mod Lent
pub mod LiveDeletes
pub mod SoundTables
pub mod Statistics
