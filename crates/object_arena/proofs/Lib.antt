pub mod Frozen
pub mod Looping
pub mod Names
pub mod Pushing
pub mod Reading
