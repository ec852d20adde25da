pub mod Conversions
pub mod Converting
pub mod Formatting
pub mod Paying
pub mod Reading
pub mod FirstNamed
