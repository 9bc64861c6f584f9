pub mod Held
pub mod Lasting
