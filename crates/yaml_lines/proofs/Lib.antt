pub mod Breaks
pub mod Cutting
