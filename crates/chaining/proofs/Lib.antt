pub mod Cases
pub mod Chains
pub mod Checkable
pub mod Marks
