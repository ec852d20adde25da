pub mod Loads
pub mod Made
