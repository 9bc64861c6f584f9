-- The row journal agrees with the tables at every retained snapshot.
pub mod Pages
pub mod Entries
pub mod Journals
