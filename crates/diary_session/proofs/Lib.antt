pub mod Chains
pub mod Printed
