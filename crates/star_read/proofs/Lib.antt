pub mod Anchored
pub mod Answering
pub mod Deciding
pub mod OnePart
pub mod Refusing
pub mod Stopping
