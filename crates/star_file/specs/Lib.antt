pub mod Loads
pub mod Passing
pub mod Programs
