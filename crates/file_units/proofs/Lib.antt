pub mod Ending
pub mod Reading
pub mod Sources
pub mod Templates
