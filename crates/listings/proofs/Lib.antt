pub mod Answers
pub mod Blocks
pub mod Lent
pub mod Naming
