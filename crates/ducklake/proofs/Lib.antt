-- What is shown of document 01's definitions. ../README.md gives the order to read in, and the invariant of demand 3.
pub mod facts
pub mod commits
pub mod expiry
pub mod readings
pub mod journal
pub mod claim
pub mod cases
