pub mod Building
pub mod Flat
pub mod Laws
pub mod Levels
pub mod Orderly
pub mod Rows
pub mod Standing
