pub mod Depths
pub mod Forms
pub mod Giving
pub mod InTurn
pub mod Objects
pub mod Plain
pub mod Reading
