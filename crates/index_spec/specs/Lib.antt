pub mod FreshValues
pub mod Index
pub mod KeyTexts
pub mod Slices
