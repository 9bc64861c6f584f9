-- An expiry and a cleanup leave sound tables, and lose no file number.
pub mod Kept
pub mod Expire
