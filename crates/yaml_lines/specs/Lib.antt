pub mod Ends
pub mod Utf8
