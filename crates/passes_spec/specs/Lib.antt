pub mod Passes
pub mod Unbuilt
