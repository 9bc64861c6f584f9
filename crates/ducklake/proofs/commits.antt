-- A commit that passes its tests leaves sound tables.
pub mod Moves
pub mod Good
pub mod Deletes
pub mod Parts
pub mod Numbers
pub mod Ranges
pub mod Lives
pub mod Apart
pub mod Statistics
pub mod Soundness
pub mod Creates
pub mod Inserts
pub mod Removals
pub mod Changes
