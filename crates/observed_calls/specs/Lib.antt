pub mod Seen
pub mod Played
