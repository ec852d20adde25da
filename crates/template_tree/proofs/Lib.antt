pub mod Nesting
pub mod Placings
pub mod Putting
pub mod Slotting
pub mod Views
pub mod Wholes
