pub mod Emits
pub mod Programs
