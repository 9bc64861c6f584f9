pub mod Chains
pub mod NameBytes
pub mod NameWords
