pub mod Announced
pub mod Besides
pub mod Binders
pub mod Boxes
pub mod Clauses
pub mod Found
pub mod Frames
pub mod Functions
pub mod Gathering
pub mod Nesting
pub mod OneBox
pub mod Putting
mod Rows
pub mod Running
pub mod Sets
pub mod Told
