pub mod Order
pub mod DeleteFiles
pub mod Positions
pub mod Times
pub mod Versions
