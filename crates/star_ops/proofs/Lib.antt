pub mod Changing
pub mod Copies
pub mod IntegerRows
pub mod Members
pub mod Parts
pub mod Repeats
