pub mod Equality
pub mod Operators
pub mod Order
