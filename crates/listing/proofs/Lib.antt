pub mod Forming
pub mod Pushing
