pub mod Examples
pub mod Filling
pub mod Refilling
pub mod Sound
