pub mod Contracts
pub mod Calls
pub mod Readings
pub mod Files
pub mod Lists
pub mod Histories
