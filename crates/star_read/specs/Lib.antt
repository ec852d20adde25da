pub mod Answers
pub mod Passing
