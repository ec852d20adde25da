pub mod Adding
pub mod Build
pub mod Calls
pub mod Files
pub mod Meaning
pub mod Run
pub mod Take
