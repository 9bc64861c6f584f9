pub mod Ids
pub mod Merged
pub mod Refused
pub mod Expirable
pub mod Retained
pub mod Listed
