pub mod Deleted
pub mod Lent
pub mod DeleteRoom
