pub mod Lent
pub mod DropRoom
