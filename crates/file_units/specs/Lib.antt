pub mod Files
pub mod Held
pub mod Reads
pub mod Stops
pub mod Templates
