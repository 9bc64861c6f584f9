-- Demand 3: what every call keeps, and that it is the claim.
pub mod Chains
pub mod Retained
pub mod Listed
pub mod Accepted
pub mod Tables
pub mod Histories
pub mod Whole
pub mod Since
pub mod Observed
