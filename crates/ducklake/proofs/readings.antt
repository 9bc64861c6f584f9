-- Readings: what they answer on any area, and that no call changes them at an older snapshot.
pub mod Alike
pub mod Frames
pub mod Answers
