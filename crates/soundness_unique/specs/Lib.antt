pub mod Files
pub mod Naming
pub mod Comparable
pub mod Records
pub mod Tables
