pub mod Acts
pub mod Floor
pub mod Progressions
pub mod Shifts
