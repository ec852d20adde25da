pub mod Answers
pub mod Changing
pub mod Objects
pub mod Owns
pub mod Types
pub mod View
