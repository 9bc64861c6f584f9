pub mod AnswerAreas
pub mod Found
pub mod Judged
pub mod Promises
