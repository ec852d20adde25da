pub mod Cutting
pub mod Putting
