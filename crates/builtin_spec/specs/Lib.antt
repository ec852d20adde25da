pub mod Attributes
pub mod Binding
pub mod Builtins
pub mod Calls
pub mod Dicts
pub mod Lists
pub mod Operators
pub mod Sorting
