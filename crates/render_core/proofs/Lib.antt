pub mod Blocks
pub mod Gathered
pub mod Held
pub mod Parting
pub mod Read
