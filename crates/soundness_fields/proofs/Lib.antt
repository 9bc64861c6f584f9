pub mod Ids
pub mod Everywhere
