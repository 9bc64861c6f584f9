pub mod Latest
pub mod Writes
