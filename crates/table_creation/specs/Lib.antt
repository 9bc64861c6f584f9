pub mod Appended
pub mod Columns
pub mod Lent
pub mod TableRoom
