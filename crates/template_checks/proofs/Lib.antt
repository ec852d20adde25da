pub mod Bare
pub mod Earliest
pub mod Returning
pub mod Rowwise
pub mod Steps
pub mod Waiting
pub mod Walking
