pub mod Nested
pub mod Reading
