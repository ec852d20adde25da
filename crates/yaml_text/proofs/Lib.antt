pub mod Indents
pub mod Whites
