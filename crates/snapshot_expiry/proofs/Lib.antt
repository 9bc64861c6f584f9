pub mod Effects
pub mod Promised
