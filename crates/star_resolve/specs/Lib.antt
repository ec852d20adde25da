pub mod Answers
pub mod Environments
pub mod Events
pub mod Frames
pub mod Functions
pub mod Gathered
pub mod Variables
