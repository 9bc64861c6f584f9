pub mod Records
pub mod Calls
pub mod Playing
pub mod Demand
