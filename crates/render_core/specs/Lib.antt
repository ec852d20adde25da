pub mod Parts
pub mod Renders
pub mod Runs
