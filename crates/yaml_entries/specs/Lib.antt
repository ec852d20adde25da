pub mod Heads
pub mod View
