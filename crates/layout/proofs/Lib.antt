mod Cases
pub mod Names
pub mod Padding
pub mod Records
pub mod Refusals
pub mod Room
pub mod RoundTrip
