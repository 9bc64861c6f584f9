pub mod Appends
pub mod Effects
pub mod Fits
pub mod Judged
pub mod Lent
pub mod TableRoom
