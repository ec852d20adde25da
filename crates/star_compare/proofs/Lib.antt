pub mod Comparing
pub mod Keys
pub mod Levels
pub mod Numbers
pub mod UnderKeys
