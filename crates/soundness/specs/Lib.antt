pub mod Scratch
pub mod Told
