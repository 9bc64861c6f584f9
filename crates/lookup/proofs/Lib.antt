pub mod Findable
pub mod Liveness
pub mod Locations
pub mod Times
