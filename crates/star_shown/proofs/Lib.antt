pub mod Collections
pub mod Pushing
pub mod Whole
