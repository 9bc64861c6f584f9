pub mod Collisions
pub mod Deciding
pub mod Groups
pub mod KeyOrder
pub mod Merging
pub mod Passes
pub mod Permutations
pub mod Putting
