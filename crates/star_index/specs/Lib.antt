pub mod Cuts
pub mod Quoting
