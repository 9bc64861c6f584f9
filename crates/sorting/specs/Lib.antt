pub mod Colliding
pub mod Keys
pub mod Ordered
pub mod Sorting
