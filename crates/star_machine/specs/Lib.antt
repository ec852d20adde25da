pub mod Pending
pub mod Turns
pub mod Weights
