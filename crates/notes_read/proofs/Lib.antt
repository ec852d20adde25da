pub mod Gives
pub mod Longer
pub mod Readers
pub mod Reading
pub mod Refusing
pub mod Saying
pub mod Splitting
pub mod Texts
