pub mod Folders
pub mod Passing
pub mod SortedNames
