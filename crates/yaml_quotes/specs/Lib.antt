pub mod Joining
pub mod Turns
pub mod View
