pub mod Outcome
pub mod View
