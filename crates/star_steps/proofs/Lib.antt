pub mod Meeting
pub mod Names
