pub mod Counted
pub mod Checkable
