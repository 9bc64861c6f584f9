pub mod Session
pub mod Listing
pub mod Room
pub mod Program
