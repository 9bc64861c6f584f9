pub mod Parts
pub mod Leading
pub mod KindLaws
pub mod Sessions
pub mod Answers
pub mod DemandThree
pub mod Cases
