pub mod Calling
pub mod Documents
pub mod Paying
pub mod Tables
