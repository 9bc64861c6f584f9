pub mod Remaining
pub mod Removed
pub mod Stayed
