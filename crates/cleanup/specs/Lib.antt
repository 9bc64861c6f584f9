pub mod Handed
pub mod Lent
