pub mod Checked
pub mod Numbered
pub mod Few
