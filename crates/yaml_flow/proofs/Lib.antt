pub mod Alike
pub mod Collected
pub mod Flows
pub mod Gaps
pub mod Scalars
pub mod Stops
pub mod Turns
